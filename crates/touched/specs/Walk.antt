-- The items that are left of a rule.
use Rattle.std.specs.Prelude.{List, [], ◌∷◌, Bool, true, false}
use Rattle.lent_slots.specs.Lent.{lent}
use Rattle.records.specs.declared.Item.{Item}
use Rattle.table_rules.specs.Rules.{items_up}
use Rattle.touched.specs.declared.Items.{Items}

abbrev pub items_left : Items → List Item
items_left s = items_up (lent s.table) s.slot

-- whether no item is left
abbrev pub is_none_left : List Item → Bool
is_none_left [] = true
is_none_left (a ∷ l) = false
