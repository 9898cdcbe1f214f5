use Prim.Native.Nat.{◌+◌}
use mathlib.Core.List.{◌++◌}
use mathlib.Core.Bool.{true}
use mathlib.Core.Path.{◌≡◌}
use lib.ListN.{length, take, replicate}
use Rattle.tallies.specs.Sums.{plus, all_within}
use Rattle.tallies.proofs.sums.raised.Given as goal

abbrev pub invariant-loop-i : goal.invariant-loop-i
invariant-loop-i l =
    (length l.s ≡ 34)
    × (take (l.at + l.i) l.s ≡ take (l.at + l.i) (plus l.t (replicate l.at 0 ++ l.more)))
    × (all_within (take (l.at + l.i) (plus l.t (replicate l.at 0 ++ l.more))) ≡ true)
