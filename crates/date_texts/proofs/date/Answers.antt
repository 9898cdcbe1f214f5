use Rattle.sheet_texts.specs.Dates as texts
use Rattle.sheet_texts.proofs.Tests.{both}
use Rattle.pen.proofs.Pours.{◌next◌}
use Rattle.date_texts.proofs.date.Goals as goal

pub day-requires : goal.day-requires
unfolding texts.good_date
day-requires c = (both (texts.good_year c.args.d.year) c.requires).1

pub returns : goal.returns
unfolding texts.date
returns c = c.year.ensures next c.day.ensures
