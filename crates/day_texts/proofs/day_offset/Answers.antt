use mathlib.Core.Path.{sym, ◌∙◌}
use borrow.Author.Tests.{eq-eqb, ne_eqb}
use lib.IntN.{nat_abs}
use Rattle.sheet_texts.specs.Names as names
use Rattle.sheet_texts.specs.Days as texts
use Rattle.pen.proofs.Pours.{none, these, ◌next◌, same}
use Rattle.time_texts.proofs.Signs.{minus, size}
use Rattle.day_texts.proofs.day_offset.Goals as goal

pub returns-then-n-eq0 : goal.returns-then-n-eq0
unfolding texts.day_offset
returns-then-n-eq0 c = same (none c.args.p.now) (λ v. rw (eq-eqb (nat_abs c.args.x) 0 (sym (size c.ranges.x c.unsigned_abs-n.ensures.value) ∙ c.if-n-eq0.true)))

pub returns : goal.returns
unfolding names.letters_in names.name names.written texts.day_offset
returns c =
    let n = size c.ranges.x c.unsigned_abs-n.ensures.value in
    same (these c.put.ensures next (rw (minus c.ranges.x) at c.plus_or_minus.ensures) next (rw n at c.number.ensures) next these c.put_all.ensures)
    (λ v. rw (ne_eqb (nat_abs c.args.x) 0 (λ e. c.if-n-eq0.false (n ∙ e))))
