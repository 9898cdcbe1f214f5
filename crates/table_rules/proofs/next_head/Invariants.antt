use mathlib.Core.Path.{◌≡◌}
use Rattle.lent_slots.specs.Lent.{lent}
use Rattle.table_rules.specs.Rules.{rules_up}
use Rattle.table_rules.proofs.next_head.Given as goal

abbrev pub invariant-loop-slot : goal.invariant-loop-slot
invariant-loop-slot l = rules_up (lent l.table) l.from ≡ rules_up (lent l.table) l.slot
