-- Tables of records, lent as words or as bytes: which of them fit (02, Ask 4).
use Rattle.std.specs.Prelude.{ℕ, zero, suc, List, [], ◌∷◌, Bool, true, false, ◌&&◌, not, ◌≡◌, eqb, ℤ, length, Option, if◌then◌else◌}
use Rattle.std.specs.Option.{option_map_or}
use Rattle.lent_slots.specs.Tables.{Tables}
use Rattle.lent_slots.specs.Slots.{is_whole, records_of}
use Rattle.records.specs.Fits.{is_kind, head_fits, item_fits}
use Rattle.records.specs.Told.{number_at}

-- ---- rules: a head and the items up to the next head

pub record Cut : Type 0 where
  pub head : List ℤ
  pub items : List (List ℤ)

abbrev pub is_head : List ℤ → Bool
is_head = is_kind 1

-- from the last record back: the items that have no head yet, and the rules after them
unfoldable pub cut : List (List ℤ) → List (List ℤ) × List Cut
cut [] = ([], [])
cut (w ∷ ws) =
    if is_head w then ([], record { head = w; items = (cut ws).0 } ∷ (cut ws).1)
    else (w ∷ (cut ws).0, (cut ws).1)

-- a head's number of items (below 0 it does not fit)
abbrev pub items_of : List ℤ → ℕ
items_of w = number_at w 5

unfoldable pub all_fit : List (List ℤ) → Bool
all_fit [] = true
all_fit (w ∷ ws) = item_fits w && all_fit ws

-- a head that fits, with just its number of items, each of which fits
unfoldable pub rule_fits : Cut → Bool
rule_fits r = head_fits r.head && (eqb (items_of r.head) (length r.items) && all_fit r.items)

unfoldable pub rules_fit : List Cut → Bool
rules_fit [] = true
rules_fit (r ∷ rs) = rule_fits r && rules_fit rs

-- no item before the first head, and at least one head
unfoldable pub records_fit : List (List ℤ) → Bool
records_fit ws = eqb (length (cut ws).0) 0 && (not (eqb (length (cut ws).1) 0) && rules_fit (cut ws).1)

-- whole groups, and their records fit
unfoldable pub table_fits : Tables → Bool
table_fits t = is_whole t && records_fit (records_of t)

-- ---- the same forward: so many items are still to come in a rule

unfoldable pub goes_on : ℕ → List (List ℤ) → Bool
goes_on n [] = eqb n 0
goes_on zero (w ∷ ws) = is_head w && (head_fits w && goes_on (items_of w) ws)
goes_on (suc n) (w ∷ ws) = item_fits w && goes_on n ws

-- a step of the code: how many items are to come after a record where n are, if the record fits
abbrev pub Steps : ℕ → List ℤ → Option ℕ → Type 0
Steps n w r = (ws : List (List ℤ)) → goes_on n (w ∷ ws) ≡ option_map_or (λ left. goes_on left ws) r false
