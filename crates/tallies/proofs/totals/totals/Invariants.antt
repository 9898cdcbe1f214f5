use Prim.Native.Nat.{◌-◌}
use mathlib.Core.Bool.{true}
use mathlib.Core.Path.{◌≡◌}
use lib.ListN.{length}
use Rattle.lent_slots.specs.Lent.{lent}
use Rattle.lent_slots.specs.Slots.{records_from, records_of}
use Rattle.tallies.specs.Sums.{all_within, sum_within}
use Rattle.tallies.specs.Counts.{total, own}
use Rattle.tallies.proofs.totals.totals.Given as goal

abbrev pub invariant-loop-slot : goal.invariant-loop-slot
invariant-loop-slot l =
    (length l.c ≡ 10)
    × (all_within l.c ≡ true)
    × (sum_within (own l.warnings) (total (records_of (lent l.table))) ≡ sum_within l.c (total (records_from (lent l.table) (l.slot-end - l.slot) l.slot)))
