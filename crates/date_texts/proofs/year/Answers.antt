use borrow.Author.Tests.{ne_eqb}
use Rattle.sheet_texts.specs.Dates as texts
use Rattle.pen.proofs.Pours.{none, these, ◌next◌, same}
use Rattle.date_texts.proofs.year.Goals as goal

pub returns-then-y-ne0 : goal.returns-then-y-ne0
unfolding texts.year
returns-then-y-ne0 c = same (c.four.ensures next these c.put.ensures) (λ v. rw (ne_eqb c.args.y 0 c.if-y-ne0.true))

pub returns-else-y-ne0 : goal.returns-else-y-ne0
unfolding texts.year
returns-else-y-ne0 c = same (none c.args.p.now) (λ v. rw c.if-y-ne0.false)
