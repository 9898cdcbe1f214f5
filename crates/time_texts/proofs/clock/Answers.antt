use Rattle.sheet_texts.specs.Times as texts
use Rattle.pen.proofs.Pours.{these, ◌next◌}
use Rattle.time_texts.proofs.clock.Goals as goal

pub returns : goal.returns
unfolding texts.clock
returns c = c.number.ensures next these c.put.ensures next c.two.ensures
