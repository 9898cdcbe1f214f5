use borrow.Author.Tests.{eq-eqb, ne_eqb}
use Rattle.sheet_texts.specs.Dates as texts
use Rattle.pen.proofs.Pours.{these, ◌next◌, same}
use Rattle.date_texts.proofs.Laws.{months_range}
use Rattle.date_texts.proofs.months.Goals as goal

pub month-requires : goal.month-requires
month-requires c = let range = (months_range c.args.r c.requires).0 in record { le_n = range.0; n_bound = range.1 }

pub month-requires-then-r : goal.month-requires-then-r
month-requires-then-r c = let range = (months_range c.args.r c.requires).1 in record { le_n = range.0; n_bound = range.1 }

pub returns-then-r : goal.returns-then-r
unfolding texts.months
returns-then-r c = same (c.year.ensures next c.month.ensures next these c.put.ensures next c.month-then-r.ensures) (λ v. rw (ne_eqb c.args.r.first c.args.r.last c.if-r.true))

pub returns-else-r : goal.returns-else-r
unfolding texts.months
returns-else-r c = same (c.year.ensures next c.month.ensures) (λ v. rw (eq-eqb c.args.r.first c.args.r.last c.if-r.false))
