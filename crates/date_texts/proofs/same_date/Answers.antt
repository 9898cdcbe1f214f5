use borrow.Author.Rules.{rules}
use Rattle.sheet_texts.specs.Dates as texts
use Rattle.date_texts.proofs.Laws.{half_same}
use Rattle.date_texts.proofs.same_date.Goals as goal

pub returns : goal.returns
unfolding texts.same_date
returns c = rw (c.same_day.ensures, half_same c.args.o.wday c.args.f.wday (search rules) (search rules), half_same c.args.o.days c.args.f.days (search rules) (search rules))
