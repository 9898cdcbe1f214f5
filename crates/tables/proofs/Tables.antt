-- The records of a table, taken forward.
use Prim.Native.Nat.{ℕ, zero, suc, ◌+◌, ◌-◌, ◌≤◌, ◌<◌}
use native.Mathlib.Nat.{sub-zero}
use native.Mathlib.Omega.{arith}
use mathlib.Core.List.{List, ◌∷◌}
use mathlib.Core.Bool.{Bool, true, false, ◌&&◌}
use mathlib.Core.Path.{◌≡◌, refl, sym, ap, ◌∙◌}
use lib.IntN.{ℤ}
use lib.Dec.{eqb}
use Rattle.std.specs.Prelude.{Option, Some, None}
use Rattle.std.specs.Option.{option_map_or}
use Rattle.lent_slots.specs.Tables.{Tables}
use Rattle.lent_slots.proofs.SlotLaws.{slot_next, slot_end}
use Rattle.lent_slots.specs.Slots.{record_at, slots, is_whole, records_from}
use Rattle.records.specs.Fits.{head_fits, item_fits}
use Rattle.tables.specs.Tables.{is_head, items_of, records_fit, table_fits, goes_on, Steps}
use Rattle.tables.proofs.Rules.{fit_forward, none_fit}

-- ---- a record where items are to come

pub step_item : (n : ℕ) (w : List ℤ) (ws : List (List ℤ)) → 0 < n → goes_on n (w ∷ ws) ≡ (item_fits w && goes_on (n - 1) ws)
unfolding goes_on
step_item zero w ws h = absurd (omega arith)
step_item (suc n) w ws h = let e : suc n - 1 ≡ n = omega arith in rw e

pub step_head : (n : ℕ) (w : List ℤ) (ws : List (List ℤ)) → n ≤ 0 → goes_on n (w ∷ ws) ≡ (is_head w && (head_fits w && goes_on (items_of w) ws))
unfolding goes_on
step_head zero w ws h = refl
step_head (suc n) w ws h = absurd (omega arith)

pub ruleset steps = (step_item, step_head)

-- ---- the whole table, of n slots

and_false : (b : Bool) → (b && false) ≡ false
and_false true = refl
and_false false = refl

pub table_none : (t : Tables) → slots t ≡ 0 → table_fits t ≡ false
unfolding table_fits records_from
table_none t e = rw (e, none_fit) (and_false (is_whole t))

forward : (t : Tables) (n : ℕ) → (n ≡ 0 → ⊥) → records_fit (records_from t n 0) ≡ goes_on 0 (records_from t n 0)
unfolding records_from
forward t zero h = absurd (h refl)
forward t (suc n) h = fit_forward (record_at t 0) (records_from t n 1)

-- whether a table fits where n slots are, of which k are taken and so many items are to come
abbrev pub fits_from : Tables → ℕ → ℕ → ℕ → Bool
fits_from t n k left = is_whole t && goes_on left (records_from t (n - k) k)

pub table_forward : (t : Tables) (n : ℕ) → n ≡ slots t → (n ≡ 0 → ⊥) → table_fits t ≡ fits_from t n 0 0
unfolding table_fits
table_forward t n e h = rw (sym e, sub-zero n, forward t n h)

module _ (t : Tables) (n k left : ℕ) where
  -- a step at slot k
  stepped_at : (w : List ℤ) (r : Option ℕ) → w ≡ record_at t k → Steps left w r → k < n → fits_from t n k left ≡ (is_whole t && option_map_or (λ l. goes_on l (records_from t (n - (k + 1)) (k + 1))) r false)
  stepped_at w r e s h = ap (λ (ws : List (List ℤ)). is_whole t && goes_on left ws) (slot_next t n k h ∙ ap (λ (v : List ℤ). v ∷ records_from t (n - (k + 1)) (k + 1)) (sym e)) ∙ ap (λ (b : Bool). is_whole t && b) (s (records_from t (n - (k + 1)) (k + 1)))

  pub slot_refused : (w : List ℤ) → w ≡ record_at t k → Steps left w None → k < n → fits_from t n k left ≡ false
  slot_refused w e s h = stepped_at w None e s h ∙ and_false (is_whole t)

  pub slot_taken : (w : List ℤ) (l : ℕ) → w ≡ record_at t k → Steps left w (Some l) → k < n → fits_from t n k left ≡ fits_from t n (k + 1) l
  slot_taken w l e s h = stepped_at w (Some l) e s h

  -- past the last slot
  pub slots_done : n ≤ k → fits_from t n k left ≡ (is_whole t && eqb left 0)
  unfolding goes_on
  slots_done h = ap (λ (ws : List (List ℤ)). is_whole t && goes_on left ws) (slot_end t n k h)

pub ruleset table_steps = (table_none, table_forward, slot_refused, slot_taken, slots_done)
