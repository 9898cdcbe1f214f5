-- What an answer of the code says, in the definitions' terms.
use Rattle.std.specs.Prelude.{ℕ, List, ◌≡◌, ◌⊎◌, Option, Some, None, Result, if◌then◌else◌}
use Rattle.std.proofs.Common.{inl, inr}
use Rattle.names.specs.Read.{Read, branch, pure, map}
use Rattle.names.specs.Seen.{seen, seen_judged, seen_certain}
use Rattle.names.specs.declared.Cursor.{Cursor}
use Rattle.names.specs.declared.refusals.Reason.{Reason}
use Rattle.names.specs.declared.refusals.Refusal.{Refusal}
use Rattle.names.specs.declared.Manner.{Manner}
use Rattle.items.specs.Musts.{missing, must}
use Rattle.records.specs.Words.{Placed}
use Rattle.items.specs.Kinds.{after_blank}
use Rattle.items.specs.Sets.{kinds_of}
use Rattle.items.specs.declared.Kind.{Kind}
use Rattle.rules.specs.Modifiers.{modifier}
use Rattle.rules.specs.Pieces.{item_from, after_colon, plain_end}
use Rattle.records.specs.declared.Comment.{Comment}
use Rattle.rules.specs.declared.Tail.{Tail}
use Rattle.rules.specs.declared.Piece.{Piece}
use Rattle.rules.specs.declared.Piece.TheVariants as piece
use Rattle.rules.specs.declared.Turn.{Turn}
use Rattle.rules.specs.declared.Stage.{Stage}
use Rattle.rules.specs.declared.Stage.TheVariants.{After}
use Rattle.rules.specs.declared.Opening.{Opening}

-- a comment and the place after it
abbrev pub seen_comment : Result (Option (Comment × Cursor)) (Refusal Reason) → Read Comment
seen_comment = seen_judged (λ a. a)

-- a piece: an item and the stage after it, or the rule's end
abbrev pub piece_of : Piece → (Placed × Stage) ⊎ Tail
piece_of (piece.Item x) = inl ((x.item, x.place), After x.kind)
piece_of (piece.End t) = inr t

abbrev pub seen_piece : Result (Piece × Cursor) (Refusal Reason) → Read ((Placed × Stage) ⊎ Tail)
seen_piece = seen_certain piece_of

-- a refusal of what has to stand at a place and does not: neither an item nor an end
abbrev pub Lacks : List ℕ → ℕ → Result (Piece × Cursor) (Refusal Reason) → Type 0
Lacks s i r = (map inl missing s i ≡ seen_piece r) × (map inr missing s i ≡ seen_piece r)

-- where a rule with this stage and place goes on: with an item that has to stand there; or with one that may, or a modifier; or it ends
abbrev pub turned : Manner → List ℕ → Stage → ℕ → Option Turn → Read ((Placed × Stage) ⊎ Tail)
turned m s x i (Some t) =
    if t.must then map inl (must (item_from m (kinds_of t.wanted.bits))) s t.at.at
    else branch (item_from m (kinds_of t.wanted.bits)) (λ a. pure (inl a)) (branch modifier (λ t. pure (inr t)) (λ s _. map inr (plain_end x) s i)) s t.at.at
turned m s x i None = map inr (plain_end x) s i

-- the turn of a rule after a colon, at c
abbrev pub ColonTurns : List ℕ → ℕ → Turn → Type 0
ColonTurns s c r = (m : Manner) (x : Stage) (i : ℕ) → map inl (after_colon m) s c ≡ turned m s x i (Some r)

-- the turn of a rule after selectors, at c: after a blank one of these kinds may stand, or a modifier
abbrev pub BlankTurns : List Kind → List ℕ → ℕ → Option Turn → Type 0
BlankTurns ks s c r =
    (m : Manner) (x : Stage) → branch (after_blank (item_from m ks)) (λ a. pure (inl a)) (branch (after_blank modifier) (λ t. pure (inr t)) (map inr
    (plain_end x))) s c ≡ turned m s x c r

-- what is always there, if only as nothing, or refused
abbrev pub seen_opening : Result (Opening × Cursor) (Refusal Reason) → Read Opening
seen_opening = seen_certain (λ a. a)

-- the number of what parts a rule from the next, or none at the text's end
abbrev pub seen_next : Option (Option ℕ × Cursor) → Read (Option ℕ)
seen_next = seen (λ a. a)
