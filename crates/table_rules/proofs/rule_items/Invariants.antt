use mathlib.Core.Bool.{true}
use mathlib.Core.Path.{◌≡◌}
use Prim.Native.Nat.{◌-◌, ◌<◌}
use Rattle.lent_slots.specs.Lent.{lent}
use Rattle.tables.specs.Tables.{is_head}
use Rattle.lent_slots.specs.Slots.{slots, record_at}
use Rattle.table_rules.specs.Rules.{rules_up, rules_in, rule_at}
use Rattle.table_rules.proofs.rule_items.Given as goal

abbrev pub invariant-loop : goal.invariant-loop
invariant-loop l =
    (l.head < 18446744073709551615)
    × (l.head < slots (lent l.table))
    × (is_head (record_at (lent l.table) l.head) ≡ true)
    × (rule_at l.k (rules_in (lent l.table)) ≡ rule_at (l.k - l.counter) (rules_up (lent l.table) l.head))
