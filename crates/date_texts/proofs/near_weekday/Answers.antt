use mathlib.Core.Path.{sym, ◌∙◌}
use native.Mathlib.Omega.{arith}
use borrow.Author.Tests.{eq-eqb, ne_eqb}
use lib.IntN.{nat_abs}
use Rattle.pen.proofs.Pours.{none, ◌next◌, same}
use Rattle.time_texts.proofs.Signs.{minus, size}
use Rattle.date_texts.proofs.near_weekday.Goals as goal

pub returns-else-n-ne0 : goal.returns-else-n-ne0
returns-else-n-ne0 c = same (none c.args.p.now) (λ v. rw (eq-eqb (nat_abs c.args.x) 0 (sym (size c.ranges.x c.unsigned_abs-n.ensures.value) ∙ c.if-n-ne0.false)))

pub overflow_cast-n : goal.overflow_cast-n
overflow_cast-n c = omega (arith, size c.ranges.x c.unsigned_abs-n.ensures.value)

pub weekday-requires : goal.weekday-requires
weekday-requires c = record { le_n = omega arith; n_bound = omega (arith, size c.ranges.x c.unsigned_abs-n.ensures.value) }

pub returns-then-n-ne0 : goal.returns-then-n-ne0
returns-then-n-ne0 c =
    let n = size c.ranges.x c.unsigned_abs-n.ensures.value in
    same ((rw (minus c.ranges.x) at c.plus_or_minus.ensures) next (rw n at c.weekday.ensures)) (λ v. rw (ne_eqb (nat_abs c.args.x) 0 (λ e. c.if-n-ne0.true (n ∙ e))))
