use Rattle.std.proofs.Common.{◌∙◌}
use Rattle.prints.proofs.Decimals.{fewest}
use Rattle.prints.proofs.pens.LentPen.put_number.Goals as goal

pub returns-clause-whole : goal.returns-clause-whole
returns-clause-whole c = rw (c.decimal-k.ensures.digits ∙ fewest _ _ c.decimal-k.ensures.len) at c.put_all.ensures
