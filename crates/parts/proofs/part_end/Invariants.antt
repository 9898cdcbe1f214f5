use Prim.Native.Nat.{◌+◌, ◌≤◌, max}
use mathlib.Core.Path.{◌≡◌}
use lib.ListN.{length, drop}
use Rattle.parts.specs.Parts.{part_in, part_end}
use Rattle.parts.proofs.part_end.Given as goal

-- what is left of the part from here ends where all of it does
abbrev pub invariant-loop-i : goal.invariant-loop-i
invariant-loop-i l = record {
  is : part_end l.s l.p ≡ l.i + part_in l.inside (drop l.i l.s);
  near : l.i ≤ max l.p (length l.s);
}
