-- The rules that are left of a table.
use Rattle.std.specs.Prelude.{List}
use Rattle.lent_slots.specs.Lent.{lent}
use Rattle.table_rules.specs.Rules.{Rule, rules_up}
use Rattle.touched.specs.Walk.{items_left}
use Rattle.months.specs.declared.TableRule.{TableRule}
use Rattle.months.specs.declared.TableRules.{TableRules}

abbrev pub rule_of : TableRule → Rule
rule_of r = record { head = r.head; items = items_left r.items }

abbrev pub rules_left : TableRules → List Rule
rules_left s = rules_up (lent s.table) s.slot
