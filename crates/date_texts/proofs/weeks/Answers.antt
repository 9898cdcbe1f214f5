use Rattle.sheet_texts.specs.Dates as texts
use Rattle.pen.proofs.Pours.{these, ◌next◌}
use Rattle.date_texts.proofs.weeks.Goals as goal

pub returns : goal.returns
unfolding texts.weeks
returns c = c.number.ensures next these c.put.ensures next c.number-2.ensures next c.step.ensures
