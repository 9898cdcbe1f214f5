use Rattle.prints.proofs.Writing.{then}
use Rattle.outputs.proofs.put_ended.Goals as goal

pub returns-clause-whole : goal.returns-clause-whole
returns-clause-whole c = then c.put_number.ensures.whole c.put.ensures
