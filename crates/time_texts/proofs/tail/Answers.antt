use Rattle.sheet_texts.specs.Times as texts
use Rattle.pen.proofs.Pours.{none, these, ◌next◌}
use Rattle.time_texts.proofs.tail.Goals as goal

pub returns-then-plus : goal.returns-then-plus
unfolding texts.tail
returns-then-plus c = rw (c.in-None.is, c.if-plus.true) (these c.put.ensures)

pub returns-else-plus : goal.returns-else-plus
unfolding texts.tail
returns-else-plus c = rw (c.in-None.is, c.if-plus.false) (none c.args.p.now)

pub returns-in-Some : goal.returns-in-Some
unfolding texts.tail
returns-in-Some c = rw c.in-Some.is (these c.put-in-Some.ensures next c.clock.ensures)
