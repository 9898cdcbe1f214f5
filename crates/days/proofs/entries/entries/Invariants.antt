use Prim.Native.Nat.{◌-◌}
use mathlib.Core.Path.{◌≡◌}
use lib.ListN.{length}
use Rattle.names.specs.Read.{map}
use Rattle.names.specs.Chain.{many}
use Rattle.days.specs.Entries.{next_entry, marked_all}
use Rattle.days.proofs.entries.entries.Given as goal

-- what the entries from here on set is what all after the first do
abbrev pub invariant-loop-more : goal.invariant-loop-more
invariant-loop-more l = map (marked_all l.initial.marks) (many next_entry) l.s l.initial.next.at ≡ map (marked_all l.marks) (many next_entry) l.s l.next.at

abbrev pub decreases-loop-more : goal.decreases-loop-more
decreases-loop-more l = length l.s - l.next.at
