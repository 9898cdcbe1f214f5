-- The months of a rule, item by item.
use Rattle.std.specs.Prelude.{ℕ, ◌-◌, Bool, false, ◌||◌, List, [], ◌∷◌, eqb, Option, Some, unwrap_or, if◌then◌else◌}
use lib.ListN.{get_or}
use Rattle.records.specs.declared.Item.{Item}
use Rattle.touched.specs.Kinds.{kind_of}
use Rattle.months.specs.Months.{item_can, mask}

-- whether each month can, January first
abbrev pub tabled : (ℕ → Bool) → List Bool
tabled f = f 1 ∷ f 2 ∷ f 3 ∷ f 4 ∷ f 5 ∷ f 6 ∷ f 7 ∷ f 8 ∷ f 9 ∷ f 10 ∷ f 11 ∷ f 12 ∷ []

-- whether month m can, by such a table
abbrev pub month_in : List Bool → ℕ → Bool
month_in can m = get_or can (m - 1) false

-- the months that can be touched, with those that an item can touch besides
unfoldable pub with_item : List Bool → Item → List Bool
with_item can a = tabled (λ m. month_in can m || item_can a m)

-- the months that the month-day items so far can touch, with an item more; none, while there are none
abbrev pub asked : Option (List Bool) → Item → Option (List Bool)
asked so_far a = if eqb (kind_of a) 2 then Some (with_item (unwrap_or so_far (tabled (λ m. false))) a) else so_far

-- months as a number
abbrev pub mask_of : List Bool → ℕ
mask_of can = mask (month_in can)
