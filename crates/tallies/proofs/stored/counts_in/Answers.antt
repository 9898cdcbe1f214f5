use native.Mathlib.Omega.{arith}
use lib.ListN.{length-set}
use Rattle.tallies.proofs.OfBytes.{number_more}
use Rattle.tallies.proofs.stored.counts_in.Goals as goal

pub loop-i-preserved : goal.loop-i-preserved
loop-i-preserved c = (simp length-set c.loop-i.invariant.0, number_more c.loop-i.count-items c.args.b.now c.loop-i.i (omega arith) c.number_in.ensures c.loop-i.invariant.1)
