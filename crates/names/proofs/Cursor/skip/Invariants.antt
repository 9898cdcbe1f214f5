use Prim.Native.Nat.{◌-◌}
use mathlib.Core.Path.{◌≡◌}
use lib.ListN.{length}
use Rattle.names.specs.Tests.{within}
use Rattle.names.specs.Chain.{skip}
use Rattle.names.proofs.Cursor.skip.Given as goal

-- what is left to skip from here ends where all of it does
abbrev pub invariant-loop-at : goal.invariant-loop-at
invariant-loop-at l = skip (within l.lo l.hi) l.s l.initial.at ≡ skip (within l.lo l.hi) l.s l.at

abbrev pub decreases-loop-at : goal.decreases-loop-at
decreases-loop-at l = length l.s - l.at
