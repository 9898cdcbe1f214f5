use Rattle.sheet_texts.specs.Times as texts
use Rattle.pen.proofs.Pours.{these, ◌next◌}
use Rattle.time_texts.proofs.span.Goals as goal

pub returns : goal.returns
unfolding texts.span
returns c = c.time.ensures next these c.put.ensures next c.time-2.ensures next c.tail.ensures
