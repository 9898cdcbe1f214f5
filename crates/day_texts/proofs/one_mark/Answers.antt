use mathlib.Core.Path.{sym, ◌∙◌}
use Rattle.sheet_texts.specs.Days as texts
use Rattle.pen.proofs.Pours.{these, ◌next◌, same}
use Rattle.time_texts.proofs.Signs.{minus, size}
use Rattle.day_texts.proofs.one_mark.Goals as goal
use Rattle.day_texts.proofs.one_mark.Goals.{then-x-lt0, else-x-lt0}

pub returns : goal.returns
unfolding texts.one_mark
returns c =
    let n = rw (size c.ranges.x c.unsigned_abs.ensures.value) at c.number.ensures in
    elim c.if-x-lt0.branch [
      | then-x-lt0 w ↦ same (these w.put.ensures next (rw w.p-is at n)) (λ v. rw (sym (minus c.ranges.x) ∙ w.if-x-lt0.true))
      | else-x-lt0 w ↦ same (rw w.p-is at n) (λ v. rw (sym (minus c.ranges.x) ∙ w.if-x-lt0.false))
    ]
