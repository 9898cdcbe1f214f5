use mathlib.Core.Path.{◌∙◌}
use Rattle.notes.proofs.Noted.{size_is, no_start, no_length, stands, not_stands}
use Rattle.notes.proofs.comment.Goals as goal

pub returns-in_err-from : goal.returns-in_err-from
returns-in_err-from c = rw c.from_residual.ensures (no_start _ c.args.start c.args.length (c.in_err-from.ensures.value ∙ size_is c.args.start c.ranges.start c.try_from.result c.try_from.ensures))

pub returns-in_err-to : goal.returns-in_err-to
returns-in_err-to c = rw c.from_residual-in_err-to.ensures (no_length _ c.args.start c.args.length (c.in_err-to.ensures.value ∙ size_is c.args.length c.ranges.length c.try_from-2.result c.try_from-2.ensures))

pub returns-then-to-sheet : goal.returns-then-to-sheet
returns-then-to-sheet c = stands _ c.args.start c.args.length
    (c.in_ok-from.ensures.value ∙ size_is c.args.start c.ranges.start c.try_from.result c.try_from.ensures)
    (c.in_ok-to.ensures.value ∙ size_is c.args.length c.ranges.length c.try_from-2.result c.try_from-2.ensures)
    c.if-to-sheet.true

pub returns-else-to-sheet : goal.returns-else-to-sheet
returns-else-to-sheet c = not_stands _ c.args.start c.args.length
    (c.in_ok-from.ensures.value ∙ size_is c.args.start c.ranges.start c.try_from.result c.try_from.ensures)
    (c.in_ok-to.ensures.value ∙ size_is c.args.length c.ranges.length c.try_from-2.result c.try_from-2.ensures)
    c.if-to-sheet.false
