use mathlib.Core.Path.{◌≡◌}
use Prim.Native.Nat.{◌+◌, ◌≤◌}
use lib.ListN.{length}
use Rattle.lent_slots.specs.Lent.{lent}
use Rattle.table_rules.specs.Rules.{rules_up, rules_in}
use Rattle.table_rules.proofs.rule_count.Given as goal

abbrev pub invariant-loop-slot : goal.invariant-loop-slot
invariant-loop-slot l = (l.count ≤ l.slot) × (l.count + length (rules_up (lent l.table) l.slot) ≡ length (rules_in (lent l.table)))
