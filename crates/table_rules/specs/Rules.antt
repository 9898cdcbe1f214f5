-- The rules of a table: each has its head's number, counted from 0, and its items, those up to the next head.
use Rattle.std.specs.Prelude.{ℕ, zero, suc, ◌-◌, ◌≤◌, ◌<◌, true, List, [], ◌∷◌, ◌≡◌, ℤ, Option, Some, None, if◌then◌else◌}
use Rattle.std.proofs.Math.Option.{none, some}
use Rattle.std.proofs.Math.Option as maths
use Rattle.lent_slots.specs.Tables.{Tables}
use Rattle.records.specs.declared.Item.{Item}
use Rattle.records.specs.Told.{candidate}
use Rattle.tables.specs.Tables.{is_head}
use Rattle.lent_slots.specs.Slots.{slots, record_at, records_from, records_of}

pub record Rule : Type 0 where
  pub head : ℕ
  pub items : List Item

-- from the last record back: the items that have no head yet, and the rules after them; k is the first record's number. Where a record fits, `candidate` is its item
unfoldable pub rules_from : ℕ → List (List ℤ) → List Item × List Rule
rules_from k [] = ([], [])
rules_from k (w ∷ ws) =
    if is_head w then ([], record { head = k; items = (rules_from (suc k) ws).0 } ∷ (rules_from (suc k) ws).1)
    else (candidate w ∷ (rules_from (suc k) ws).0, (rules_from (suc k) ws).1)

-- the rules of a table
abbrev pub rules_in : Tables → List Rule
rules_in t = (rules_from 0 (records_of t)).1

-- the rule numbered k, from 0, if there is one
unfoldable pub rule_at : ℕ → List Rule → maths.Option Rule
rule_at k [] = none
rule_at zero (r ∷ rs) = some r
rule_at (suc k) (r ∷ rs) = rule_at k rs

-- ---- from slot k of a table on

-- the items up to the next head
unfoldable pub items_up : Tables → ℕ → List Item
items_up t k = (rules_from k (records_from t (slots t - k) k)).0

-- the rules whose heads are there
unfoldable pub rules_up : Tables → ℕ → List Rule
rules_up t k = (rules_from k (records_from t (slots t - k) k)).1

-- the rule whose head is in slot k
abbrev pub rule_of : Tables → ℕ → Rule
rule_of t k = record { head = k; items = items_up t (suc k) }

-- what the code's answer says: the items are from slot k on, after the head
abbrev pub found : Tables → Option ℕ → maths.Option Rule
found t (Some k) = some (record { head = k - 1; items = items_up t k })
found t None = none

-- k is the slot of the first head from slot j on
pub record IsFirstHead (t : Tables) (j k : ℕ) : Type 0 where
  pub later : j ≤ k
  pub within : k < slots t
  pub same : rules_up t j ≡ rules_up t k
  pub is_head_lem : is_head (record_at t k) ≡ true

-- the first head from slot j on, or no rule begins there
abbrev pub NextHead : Tables → ℕ → Option ℕ → Type 0
NextHead t j (Some k) = IsFirstHead t j k
NextHead t j None = rules_up t j ≡ []
