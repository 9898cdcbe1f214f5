-- Recorded days one after the other, and the answers written for them.
use Prim.Native.Nat.{ℕ, zero, suc, ◌+◌, ◌*◌, ◌/◌, ◌%◌, ◌-◌, ◌≤◌, ◌<◌}
use native.Mathlib.Numerals.{add-one}
use native.Mathlib.Omega.{arith}
use mathlib.Core.Bool.{Bool, true, false, ◌&&◌}
use mathlib.Core.List.{List, [], ◌∷◌, map}
use mathlib.Core.Path.{◌≡◌, refl, sym, ap, ◌∙◌}
use lib.Dec.{eqb}
use lib.ListN.{length}
use Rattle.std.specs.List.{fold, list_all, range_with_len}
use lib.Seq.{sets}
use Rattle.lent_slots.specs.Bytes.{little_endian}
use Rattle.table_rules.specs.Numbers.{written}
use Rattle.records.specs.declared.Item.{Item}
use Rattle.almanac.specs.Numbers.{possible}
use Rattle.almanac.specs.Laws.{Known}
use Rattle.almanac.proofs.Order.{possible_known}
use Rattle.almanac.specs.declared.Ymd.{Ymd}
use Rattle.almanac.specs.declared.OnDay.{OnDay}
use Rattle.touched.specs.Kinds.{rule_touch}
use Rattle.touched.specs.Founds.{begun, with_item, with_items, ended}
use Rattle.touched.specs.Days.{day_at, days_from, days_in, all_possible, days_fit}
use Rattle.touched.specs.declared.Found.{Found}
use Rattle.touched.proofs.ItemByItem.{item_by_item}

module _ (b : List ℕ) (n i : ℕ) where
  pub days_next : i < n → days_from b (n - i) i ≡ day_at b i ∷ days_from b (n - (i + 1)) (i + 1)
  unfolding days_from
  days_next h = let e : n - i ≡ suc (n - (i + 1)) = omega arith in rw (e, add-one i)

  pub days_end : n ≤ i → days_from b (n - i) i ≡ []
  unfolding days_from
  days_end h = let e : n - i ≡ 0 = omega arith in rw e

-- each of some days is possible
possible_first : (a : Ymd) (l : List Ymd) → all_possible (a ∷ l) ≡ (possible a && all_possible l)
unfolding all_possible
possible_first a l = refl

and_left : (a b : Bool) → (a && b) ≡ true → a ≡ true
and_left true b e = refl
and_left false b e = e

and_right : (a b : Bool) → (a && b) ≡ true → b ≡ true
and_right true b e = e
and_right false true e = refl
and_right false false e = e

module _ (b : List ℕ) (n i : ℕ) (h : i < n) (e : all_possible (days_from b (n - i) i) ≡ true) where
  both : (possible (day_at b i) && all_possible (days_from b (n - (i + 1)) (i + 1))) ≡ true
  both = sym (possible_first (day_at b i) (days_from b (n - (i + 1)) (i + 1))) ∙ ap all_possible (sym (days_next b n i h)) ∙ e

  pub day_possible : possible (day_at b i) ≡ true
  day_possible = and_left (possible (day_at b i)) (all_possible (days_from b (n - (i + 1)) (i + 1))) both

  pub day_known : Known (day_at b i) × ((day_at b i).year ≤ 9999)
  day_known = possible_known (day_at b i) day_possible

  pub days_possible : all_possible (days_from b (n - (i + 1)) (i + 1)) ≡ true
  days_possible = and_right (possible (day_at b i)) (all_possible (days_from b (n - (i + 1)) (i + 1))) both

-- all days are possible, asked one after the other
asked_from : (b : List ℕ) (n i : ℕ) → list_all (λ k. possible (day_at b k)) (range_with_len i n) ≡ all_possible (days_from b n i)
unfolding days_from all_possible
asked_from b zero i = refl
asked_from b (suc n) i = rw add-one (ap (λ (x : Bool). possible (day_at b i) && x) (asked_from b n (suc i)))

pub all_asked : (b : List ℕ) → list_all (λ k. possible (day_at b k)) (range_with_len 0 (length b / 12)) ≡ all_possible (days_in b)
all_asked b = asked_from b (length b / 12) 0

pub fit_possible : (b : List ℕ) → days_fit b ≡ true → all_possible (days_in b) ≡ true
unfolding days_fit
fit_possible b e = and_right (eqb (length b % 12) 0) (all_possible (days_in b)) e

-- a rule's items one after the other
with_folds : (d : OnDay) (h : Found) (l : List Item) → fold (with_item d) h l ≡ with_items d h l
unfolding with_items
with_folds d h [] = refl
with_folds d h (a ∷ l) = with_folds d (with_item d h a) l

pub rule_over : (d : OnDay) (l : List Item) → ended (fold (with_item d) begun l) ≡ rule_touch d l
rule_over d l = ap ended (with_folds d begun l) ∙ item_by_item d l

-- the answer of day i is written
pub answers_next : (f : Ymd → ℕ) (b a : List ℕ) (n i : ℕ) → i < n →
    written a i (map f (days_from b (n - i) i)) ≡ written (sets a (i * 4) (little_endian (f (day_at b i)))) (i + 1) (map f (days_from b (n - (i + 1)) (i + 1)))
unfolding written
answers_next f b a n i h =
    ap (λ (l : List Ymd). written a i (map f l)) (days_next b n i h)
    ∙ ap (λ j. written (sets a (i * 4) (little_endian (f (day_at b i)))) j (map f (days_from b (n - (i + 1)) (i + 1)))) (sym (add-one i))

pub answers_end : (f : Ymd → ℕ) (b a : List ℕ) (n i : ℕ) → n ≤ i → written a i (map f (days_from b (n - i) i)) ≡ a
unfolding written
answers_end f b a n i h = ap (λ (l : List Ymd). written a i (map f l)) (days_end b n i h)
