use Prim.Native.Nat.{◌-◌}
use mathlib.Core.Path.{◌≡◌}
use lib.ListN.{length}
use Rattle.utf8.specs.Letters.{letters}
use Rattle.utf8.proofs.letters.Given as goal

-- the characters from here on end where all of them do
abbrev pub invariant-loop-next : goal.invariant-loop-next
invariant-loop-next l = letters l.s l.initial.c.at ≡ letters l.s l.c.at

abbrev pub decreases-loop-next : goal.decreases-loop-next
decreases-loop-next l = length l.s - l.c.at
