-- The tables, with the items that are left kept after those that are, are those with the whole rule, and its first break is that of them all.
use native.Mathlib.Omega.{arith}
use mathlib.Core.Path.{◌≡◌, refl, ap, ◌∙◌}
use Rattle.names.proofs.Local.{past_one}
use Rattle.records.proofs.Warned.{item_warnings_few}
use Rattle.records.specs.Words.{item_record}
use Rattle.std.specs.Prelude.{Ok, Err}
use Rattle.rules.specs.Seen.{seen_piece}
use Rattle.rules.specs.declared.Piece.{Piece}
use Rattle.rules.proofs.Cut.{more_local}
use Rattle.rules.proofs.Chained.{piece_item}
use Rattle.rules.proofs.Small.{opening_small}
use Rattle.text_rules.proofs.Fills.{left_refused, left_end, turn_begin, turn_more, turn_whole, head_small, head_placed, item_placed}
use Rattle.text_rules.proofs.rule.fill_pieces.Goals as goal

pub loop-piece-init : goal.loop-piece-init
unfolding item_record
loop-piece-init c = rw c.begun-judged.ensures (turn_begin _ _ _ _ _ _ _ _ _)

pub overflow_add-n : goal.overflow_add-n
unfolding item_record
overflow_add-n c = omega (arith, past_one (more_local _ _) (piece_item _ _ _ _ (c.in_ok-piece.ensures ∙ ap (λ (x : Piece). seen_piece (Ok (x, c.in_ok-piece.d))) c.in-Item.is)), c.loop-piece.invariant.low)

pub overflow_add-slot : goal.overflow_add-slot
unfolding item_record
overflow_add-slot c = omega (arith, past_one (more_local _ _) (piece_item _ _ _ _ (c.in_ok-piece.ensures ∙ ap (λ (x : Piece). seen_piece (Ok (x, c.in_ok-piece.d))) c.in-Item.is)), c.loop-piece.invariant.few, c.requires.0, c.requires.1)

pub keep_item-requires : goal.keep_item-requires
unfolding item_record
keep_item-requires c = omega (arith, item_placed _ _ _ _ (piece_item _ _ _ _ (c.in_ok-piece.ensures ∙ ap (λ (x : Piece). seen_piece (Ok (x, c.in_ok-piece.d))) c.in-Item.is)), c.requires.0)

pub overflow_add-warned : goal.overflow_add-warned
unfolding item_record
overflow_add-warned c = omega (arith, c.warnings_in.ensures, item_warnings_few c.in-Item.a.item, c.loop-piece.invariant.mild, c.loop-piece.invariant.few, c.requires.0)

pub loop-piece-smaller : goal.loop-piece-smaller
unfolding item_record
loop-piece-smaller c = omega (arith, past_one (more_local _ _) (piece_item _ _ _ _ (c.in_ok-piece.ensures ∙ ap (λ (x : Piece). seen_piece (Ok (x, c.in_ok-piece.d))) c.in-Item.is)), c.after-spot.ensures.1)

pub loop-piece-preserved : goal.loop-piece-preserved
unfolding item_record
loop-piece-preserved c = rw (c.keep_item.ensures, c.item-judged.ensures, c.after-spot.ensures.0, c.after-spot.ensures.1, c.warnings_in.ensures)
    (turn_more _ _ _ _ _ _ _ _ _ (c.loop-piece.words, c.loop-piece.bytes) c.loop-piece.judged c.loop-piece.n c.loop-piece.warned c.loop-piece.spot.stage c.loop-piece.spot.at c.loop-piece.invariant
    (piece_item _ _ _ _ (c.in_ok-piece.ensures ∙ ap (λ (x : Piece). seen_piece (Ok (x, c.in_ok-piece.d))) c.in-Item.is)))

pub head_of-head-requires : goal.head_of-head-requires
unfolding item_record
head_of-head-requires c = omega (arith, c.loop-piece.invariant.mild, c.loop-piece.invariant.few, c.requires.0)

pub keep_head-requires : goal.keep_head-requires
unfolding item_record
keep_head-requires c = let q = head_small c.args.m c.args.place c.args.separator c.args.start.comment c.in-End.t c.args.s.now c.loop-piece.n c.loop-piece.warned
    c.loop-piece.spot.at _ c.loop-piece.spot.stage (opening_small c.args.s.now c.args.place c.requires.2) (c.in_ok-piece.ensures ∙ ap (λ (x : Piece). seen_piece (Ok (x, c.in_ok-piece.d))) c.in-End.is) in
    rw c.head_of-head.ensures (
      omega (arith, q.0, c.requires.0),
      omega (arith, q.1, c.requires.0),
      omega (arith, c.loop-piece.invariant.few, c.requires.0),
      omega (
        arith,
        head_placed _ _ _ _ _ _ (turn_whole _ _ _ _ _ _ _ _ _ _ c.loop-piece.judged c.loop-piece.n c.loop-piece.warned c.loop-piece.spot.stage c.loop-piece.spot.at
            c.requires.2 refl refl c.loop-piece.invariant (left_end _ _ _ _ _ _ _ c.loop-piece.judged c.loop-piece.n c.loop-piece.warned c.loop-piece.spot.stage c.loop-piece.spot.at (c.in_ok-piece.ensures ∙ ap (λ (x : Piece). seen_piece (Ok (x, c.in_ok-piece.d))) c.in-End.is))),
        c.requires.0,
      ),
    )

pub shape_of-words-in-End : goal.shape_of-words-in-End
unfolding item_record
shape_of-words-in-End c = c.words-in-End-1.given ∙ c.loop-piece.invariant.words

pub shape_of-bytes-in-End : goal.shape_of-bytes-in-End
unfolding item_record
shape_of-bytes-in-End c = c.bytes-in-End-1.given ∙ c.loop-piece.invariant.bytes

pub returns-in-End : goal.returns-in-End
unfolding item_record
returns-in-End c = rw (c.keep_head.ensures, c.head_of-head.ensures) (turn_whole _ _ _ _ _ _ _ _ _ _ c.loop-piece.judged c.loop-piece.n c.loop-piece.warned c.loop-piece.spot.stage c.loop-piece.spot.at
    c.requires.2 refl refl c.loop-piece.invariant (left_end _ _ _ _ _ _ _ c.loop-piece.judged c.loop-piece.n c.loop-piece.warned c.loop-piece.spot.stage c.loop-piece.spot.at (c.in_ok-piece.ensures ∙ ap (λ (x : Piece). seen_piece (Ok (x, c.in_ok-piece.d))) c.in-End.is)))

pub shape_of-words-in_err-piece : goal.shape_of-words-in_err-piece
unfolding item_record
shape_of-words-in_err-piece c = c.loop-piece.invariant.words

pub shape_of-bytes-in_err-piece : goal.shape_of-bytes-in_err-piece
unfolding item_record
shape_of-bytes-in_err-piece c = c.loop-piece.invariant.bytes

pub returns-in_err-piece : goal.returns-in_err-piece
unfolding item_record
returns-in_err-piece c = let refused : c.from_residual.result ≡ Err c.in_err-piece.field-0.0 = grind arith in rw refused (turn_whole _ _ _ _ _ _ _ _ _ _ c.loop-piece.judged c.loop-piece.n c.loop-piece.warned c.loop-piece.spot.stage c.loop-piece.spot.at
    c.requires.2 refl refl c.loop-piece.invariant (left_refused _ _ _ _ _ _ _ c.loop-piece.judged c.loop-piece.n c.loop-piece.warned c.loop-piece.spot.stage c.loop-piece.spot.at c.in_err-piece.ensures))
