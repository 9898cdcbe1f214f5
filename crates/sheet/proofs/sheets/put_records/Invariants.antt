-- Record by record.
use Prim.Native.Nat.{◌*◌, ◌-◌, ◌≤◌}
use mathlib.Core.Path.{◌≡◌}
use lib.ListN.{length, drop}
use Rattle.lent_slots.specs.Tables.{all_kept, records_in}
use Rattle.sheet.proofs.sheets.put_records.Given as goal

abbrev pub invariant-loop-slot : goal.invariant-loop-slot
invariant-loop-slot l = (l.slot ≤ l.n) × (length l.words ≡ length l.initial.words) × (length l.bytes ≡ length l.initial.bytes) × (all_kept (l.initial.words, l.initial.bytes) 0 (records_in l.n l.from) ≡ all_kept (l.words, l.bytes) l.slot
    (records_in (l.n - l.slot) (drop (l.slot * 16) l.from)))

abbrev pub decreases-loop-slot : goal.decreases-loop-slot
decreases-loop-slot l = l.n - l.slot
