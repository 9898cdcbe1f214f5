use mathlib.Core.Path.{◌≡◌}
use lib.ListN.{length, take}
use Rattle.tallies.specs.Stored.{numbers_from}
use Rattle.tallies.proofs.stored.counts_in.Given as goal

abbrev pub invariant-loop-i : goal.invariant-loop-i
invariant-loop-i l = (length l.count-items ≡ 34) × (take l.i l.count-items ≡ numbers_from l.i l.b 0)
