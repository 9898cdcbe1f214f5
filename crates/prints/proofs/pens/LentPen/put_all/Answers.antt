use Rattle.std.proofs.Common.{sym}
use Rattle.std.proofs.lemmas.List.{take_more}
use Rattle.prints.proofs.Writing.{then, same}
use Rattle.prints.proofs.pens.LentPen.put_all.Goals as goal

pub loop-b-preserved : goal.loop-b-preserved
loop-b-preserved c = same (then c.loop-b.invariant c.put.ensures) (sym (take_more c.args.text.now c.loop-b.b-index 0 c.loop-b-test.true))
