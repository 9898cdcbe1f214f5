use mathlib.Core.Path.{sym, ◌∙◌}
use borrow.Author.Tests.{eq-eqb, ne_eqb}
use lib.IntN.{nat_abs}
use Rattle.pen.proofs.Pours.{these, ◌next◌, same}
use Rattle.time_texts.specs.Events.{around}
use Rattle.time_texts.proofs.Signs.{minus, size}
use Rattle.time_texts.proofs.around.Goals as goal

pub returns-then-n-eq0 : goal.returns-then-n-eq0
unfolding around
returns-then-n-eq0 c = same (these c.put_all.ensures) (λ v. rw (eq-eqb (nat_abs c.args.x) 0 (sym (size c.ranges.x c.unsigned_abs-n.ensures.value) ∙ c.if-n-eq0.true)))

pub returns : goal.returns
unfolding around
returns c =
    let n = size c.ranges.x c.unsigned_abs-n.ensures.value in
    same (these c.put.ensures next these c.put_all-2.ensures next (rw (minus c.ranges.x) at c.plus_or_minus.ensures) next (rw n at c.clock.ensures) next these c.put-2.ensures)
    (λ v. rw (ne_eqb (nat_abs c.args.x) 0 (λ e. c.if-n-eq0.false (n ∙ e))))
