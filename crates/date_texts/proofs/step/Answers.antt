use borrow.Author.Tests.{ne_eqb}
use Rattle.sheet_texts.specs.Dates as texts
use Rattle.pen.proofs.Pours.{none, these, ◌next◌, same}
use Rattle.date_texts.proofs.step.Goals as goal

pub returns-then-n-ne1 : goal.returns-then-n-ne1
unfolding texts.step
returns-then-n-ne1 c = same (these c.put.ensures next c.number.ensures) (λ v. rw (ne_eqb c.args.n 1 c.if-n-ne1.true))

pub returns-else-n-ne1 : goal.returns-else-n-ne1
unfolding texts.step
returns-else-n-ne1 c = same (none c.args.p.now) (λ v. rw c.if-n-ne1.false)
