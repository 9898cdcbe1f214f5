use mathlib.Core.Path.{◌∙◌}
use Rattle.names.proofs.Lists.{found, passed, over}
use Rattle.names.proofs.Cursor.one_of.Goals as goal

pub returns-in-Some : goal.returns-in-Some
returns-in-Some g c = c.loop-row.invariant ∙ found _ _ _ _ _ c.loop-row-test.true _ c.index-names-row.is c.in-Some.ensures

pub loop-row-preserved : goal.loop-row-preserved
loop-row-preserved g c = c.loop-row.invariant ∙ passed _ _ _ _ _ c.loop-row-test.true _ c.index-names-row.is c.in_default.ensures

pub returns : goal.returns
returns g c = c.loop-row.invariant ∙ over _ _ _ _ _ c.loop-row-test.false
