use Rattle.sheet_texts.specs.Dates as texts
use Rattle.pen.proofs.Pours.{these, ◌next◌}
use Rattle.date_texts.proofs.years.Goals as goal

pub returns : goal.returns
unfolding texts.years
returns c = c.four.ensures next these c.put.ensures next c.four-2.ensures next c.step.ensures
