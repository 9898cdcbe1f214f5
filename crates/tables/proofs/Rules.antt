-- The forward reading of a table's records is what cutting them into rules says.
use Rattle.std.specs.Prelude.{if◌then◌else◌}
use Prim.Native.Nat.{ℕ, zero, suc}
use native.Mathlib.Omega.{arith}
use mathlib.Core.List.{List, [], ◌∷◌}
use mathlib.Core.Bool.{Bool, true, false, ◌&&◌, not}
use mathlib.Core.Path.{◌≡◌, refl, sym, ap, ◌∙◌}
use borrow.Author.Tests.{eq-eqb, ne_eqb, eqb-true, eqb-false}
use lib.Dec.{eqb}
use lib.IntN.{ℤ}
use lib.ListN.{length}
use Rattle.records.specs.Ranges.{between}
use Rattle.records.specs.Fits.{word_at, head_fits, item_fits}
use Rattle.tables.specs.Tables.{Cut, is_head, cut, items_of, all_fit, rule_fits, rules_fit, records_fit, goes_on}
use Rattle.records.proofs.WordLaws.{exactly_is}

-- a head is no item
head_no_item : (w : List ℤ) → is_head w ≡ true → item_fits w ≡ false
unfolding item_fits between
head_no_item w e = rw (exactly_is 1 (word_at w 0) e)

-- with so many items to come, what is cut has so many before its first head
abbrev waits : ℕ → List (List ℤ) × List Cut → Bool
waits n c = eqb n (length c.0) && (all_fit c.0 && rules_fit c.1)

and_swap : (a b c d : Bool) → (a && (b && (c && d))) ≡ (b && ((a && c) && d))
and_swap true b c d = refl
and_swap false true c d = refl
and_swap false false c d = refl

and_three : (a b c d : Bool) → (a && (b && (c && d))) ≡ ((a && (b && c)) && d)
and_three true true c d = refl
and_three true false c d = refl
and_three false b c d = refl

suc_eqb : (a b : ℕ) → eqb (suc a) (suc b) ≡ eqb a b
suc_eqb a b = go (eqb a b) refl
  where
    go : (t : Bool) → eqb a b ≡ t → eqb (suc a) (suc b) ≡ t
    go true e = eq-eqb (suc a) (suc b) (ap suc (eqb-true a b e))
    go false e = ne_eqb (suc a) (suc b) (λ q. eqb-false a b e (omega arith))

-- what a record before others makes of what they are cut into
abbrev before : Bool → List ℤ → List (List ℤ) × List Cut → List (List ℤ) × List Cut
before t w c = if t then ([], record { head = w; items = c.0 } ∷ c.1) else (w ∷ c.0, c.1)

at_end_lem : (t : Bool) → t ≡ (t && true)
at_end_lem true = refl
at_end_lem false = refl

not_less : (n : ℕ) → eqb 0 (suc n) ≡ false
not_less n = ne_eqb 0 (suc n) (λ q. omega arith)

not_more : (n : ℕ) → eqb (suc n) 0 ≡ false
not_more n = ne_eqb (suc n) 0 (λ q. omega arith)

module _ (w : List ℤ) (ws : List (List ℤ)) where
  first_before : (t : Bool) → goes_on (items_of w) ws ≡ waits (items_of w) (cut ws) → (t && (head_fits w && goes_on (items_of w) ws)) ≡ waits 0 (before t w (cut ws))
  unfolding all_fit rules_fit rule_fits
  first_before true h = rw h (and_three (head_fits w) (eqb (items_of w) (length (cut ws).0)) (all_fit (cut ws).0) (rules_fit (cut ws).1))
  first_before false h = rw (not_less (length (cut ws).0))

  next_before : (n : ℕ) (t : Bool) → is_head w ≡ t → goes_on n ws ≡ waits n (cut ws) → (item_fits w && goes_on n ws) ≡ waits (suc n) (before t w (cut ws))
  unfolding all_fit rules_fit
  next_before n true e h = rw (head_no_item w e, not_more n)
  next_before n false e h = rw (h, suc_eqb n (length (cut ws).0)) (and_swap (item_fits w) (eqb n (length (cut ws).0)) (all_fit (cut ws).0) (rules_fit (cut ws).1))

pub goes_on_lem : (n : ℕ) (ws : List (List ℤ)) → goes_on n ws ≡ waits n (cut ws)
unfolding goes_on cut all_fit rules_fit
goes_on_lem n [] = at_end_lem (eqb n 0)
goes_on_lem zero (w ∷ ws) = first_before w ws (is_head w) (goes_on_lem (items_of w) ws)
goes_on_lem (suc n) (w ∷ ws) = next_before w ws n (is_head w) refl (goes_on_lem n ws)

-- so of at least one record
pub fit_forward : (w : List ℤ) (ws : List (List ℤ)) → records_fit (w ∷ ws) ≡ goes_on 0 (w ∷ ws)
unfolding records_fit cut all_fit rules_fit
fit_forward w ws = go (is_head w) ∙ sym (goes_on_lem 0 (w ∷ ws))
  where
    go : (t : Bool) → (eqb (length (before t w (cut ws)).0) 0 && (not (eqb (length (before t w (cut ws)).1) 0) && rules_fit (before t w (cut ws)).1)) ≡ waits 0 (before t w (cut ws))
    go true = rw (not_more (length (cut ws).1))
    go false = rw (not_more (length (cut ws).0), not_less (length (cut ws).0))

-- and none do not fit
pub none_fit : records_fit [] ≡ false
unfolding records_fit cut
none_fit = refl
