-- No second answer meets a promise: an answer is known by what it says.
use Prim.Native.Nat.{ℕ}
use mathlib.Core.Path.{◌≡◌, ap}
use Rattle.std.specs.Prelude.{Option, Result}
use Rattle.names.specs.declared.Cursor.{Cursor}
use Rattle.names.specs.declared.refusals.Reason.{Reason}
use Rattle.names.specs.declared.refusals.Refusal.{Refusal}
use Rattle.names.proofs.OneAnswer.{seen_one_answer}
use Rattle.records.specs.declared.Comment.{Comment}
use Rattle.records.specs.Words.{Placed}
use Rattle.records.proofs.OneAnswer.{judged_one_answer, certain_one_answer}
use Rattle.rules.specs.Seen.{seen_comment, piece_of, seen_piece, seen_opening, seen_next}
use Rattle.rules.specs.declared.Opening.{Opening}
use Rattle.rules.specs.declared.Stage.{Stage}
use Rattle.rules.specs.declared.Stage.TheVariants.{After}
use Rattle.rules.specs.declared.Piece.{Piece}
use Rattle.rules.specs.declared.Piece.TheVariants as piece

pub comment_one_answer : (x y : Result (Option (Comment × Cursor)) (Refusal Reason)) → seen_comment x ≡ seen_comment y → x ≡ y
comment_one_answer = judged_one_answer (λ a. a) (λ a b e. e)

-- a piece is known by what it says
piece_one : (x y : Piece) → piece_of x ≡ piece_of y → x ≡ y
piece_one (piece.Item x) (piece.Item y) e =
    let z : ◌≡◌ {A = Placed × Stage} ((x.item, x.place), After x.kind) ((y.item, y.place), After y.kind) = cc in
    let stage : After x.kind ≡ After y.kind = ap (λ (w : Placed × Stage). w.1) z in
    let kind : x.kind ≡ y.kind = cc in
    rw (ap (λ (w : Placed × Stage). w.0.0) z, ap (λ (w : Placed × Stage). w.0.1) z, kind)
piece_one (piece.Item x) (piece.End u) e = cc
piece_one (piece.End t) (piece.Item y) e = cc
piece_one (piece.End t) (piece.End u) e = let h : t ≡ u = cc in rw h

pub piece_one_answer : (x y : Result (Piece × Cursor) (Refusal Reason)) → seen_piece x ≡ seen_piece y → x ≡ y
piece_one_answer = certain_one_answer piece_of piece_one

pub next_one_answer : (x y : Option (Option ℕ × Cursor)) → seen_next x ≡ seen_next y → x ≡ y
next_one_answer = seen_one_answer (λ a. a) (λ a b e. e)

pub opening_one_answer : (x y : Result (Opening × Cursor) (Refusal Reason)) → seen_opening x ≡ seen_opening y → x ≡ y
opening_one_answer = certain_one_answer (λ a. a) (λ a b e. e)
