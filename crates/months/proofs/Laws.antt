-- Laws that the code of months goes by.
use Prim.Native.Nat.{ℕ, zero, suc, ◌+◌, ◌*◌, ◌%◌, ◌^◌, ◌-◌, ◌≤◌}
use native.Mathlib.Omega.{arith}
use Rattle.std.proofs.Math.Pow.{pow_mono}
use Rattle.std.proofs.Math.Nat.{pow-suc}
use Rattle.std.specs.Int.{from_bool}
use mathlib.Core.Bool.{Bool, true, false, ◌||◌}
use mathlib.Core.List.{List, [], ◌∷◌}
use mathlib.Core.Path.{◌≡◌, refl, ap, ◌∙◌}
use lib.Dec.{eqb}
use Rattle.records.specs.declared.Item.{Item}
use Rattle.records.specs.declared.MonthSpan.{MonthSpan}
use Rattle.records.specs.declared.DateSpan.{DateSpan}
use Rattle.records.specs.declared.Item.TheVariants.{Years, Months, Dates, Weeks, Weekdays, Holidays, Times}
use Rattle.touched.specs.Kinds.{kind_of, of_kind}
use Rattle.months.specs.Months.{item_can, any_can, list_can, rule_can, rule_mask, bit_of, mask}
use Rattle.months.specs.Masks.{tabled, with_item, asked, mask_of}
use Rattle.std.proofs.Common.{Option, Some, None}
use Rattle.std.specs.Prelude.{if◌then◌else◌}
use Rattle.std.specs.List.{fold}

-- items other than those of months and dates are not asked
pub not_asked : (a : Item) (m : ℕ) → ((r : MonthSpan) → a ≡ Months r → ⊥) → ((r : DateSpan) → a ≡ Dates r → ⊥) → false ≡ item_can a m
unfolding item_can
not_asked (Years r) m p q = refl
not_asked (Months r) m p q = absurd (p r refl)
not_asked (Dates r) m p q = absurd (q r refl)
not_asked (Weeks r) m p q = refl
not_asked (Weekdays r) m p q = refl
not_asked (Holidays r) m p q = refl
not_asked (Times r) m p q = refl

-- ---- the months of a rule

or_assoc : (a b c : Bool) → ((a || b) || c) ≡ (a || (b || c))
or_assoc true b c = refl
or_assoc false b c = refl

or_false : (b : Bool) → b ≡ (b || false)
or_false true = refl
or_false false = refl

-- tables of the same months
tabled_same : (f g : ℕ → Bool) → ((m : ℕ) → f m ≡ g m) → tabled f ≡ tabled g
tabled_same f g e = rw (e 1, e 2, e 3, e 4, e 5, e 6, e 7, e 8, e 9, e 10, e 11, e 12) refl

-- after month-day items: they can, or a later one
some_asked : (f : ℕ → Bool) (l : List Item) → fold asked (Some (tabled f)) l ≡ Some (tabled (λ m. f m || any_can (of_kind 2 l) m))
unfolding any_can of_kind with_item
some_asked f [] = ap Some (tabled_same f (λ m. f m || false) (λ m. or_false (f m)))
some_asked f (a ∷ l) = go (eqb (kind_of a) 2) (some_asked f l) (some_asked (λ m. f m || item_can a m) l)
  where
    go : (t : Bool) → fold asked (Some (tabled f)) l ≡ Some (tabled (λ m. f m || any_can (of_kind 2 l) m)) →
        fold asked (Some (tabled (λ m. f m || item_can a m))) l ≡ Some (tabled (λ m. (f m || item_can a m) || any_can (of_kind 2 l) m)) →
        fold asked (if t then Some (tabled (λ m. f m || item_can a m)) else Some (tabled f)) l ≡ Some (tabled (λ m. f m || any_can (if t then a ∷ of_kind 2 l else of_kind 2 l) m))
    go true p q = q ∙ ap Some (tabled_same (λ m. (f m || item_can a m) || any_can (of_kind 2 l) m) (λ m. f m || (item_can a m || any_can (of_kind 2 l) m)) (λ m. or_assoc (f m) (item_can a m) (any_can (of_kind 2 l) m)))
    go false p q = p

-- the months of month-day items: none is asked, or they can
abbrev listed : List Item → Option (List Bool)
listed [] = None
listed (a ∷ l) = Some (tabled (any_can (a ∷ l)))

all_asked : (l : List Item) → fold asked None l ≡ listed (of_kind 2 l)
unfolding any_can of_kind with_item
all_asked [] = refl
all_asked (a ∷ l) = go (eqb (kind_of a) 2) (all_asked l)
  where
    go : (t : Bool) → fold asked None l ≡ listed (of_kind 2 l) →
        fold asked (if t then Some (tabled (λ m. item_can a m)) else None) l ≡ listed (if t then a ∷ of_kind 2 l else of_kind 2 l)
    go true p = some_asked (λ m. item_can a m) l
    go false p = p

-- as a number
abbrev pub number : Option (List Bool) → ℕ
number None = 4095
number (Some can) = mask_of can

pub rule_asked : (l : List Item) → number (fold asked None l) ≡ rule_mask l
unfolding rule_can mask
rule_asked l = ap number (all_asked l) ∙ go (of_kind 2 l)
  where
    go : (k : List Item) → number (listed k) ≡ mask (list_can k)
    go [] = refl
    go (a ∷ k) = refl

-- ---- the months as a number, month by month

abbrev pub masked : (ℕ → Bool) → ℕ → ℕ
masked f zero = 0
masked f (suc n) = masked f n + bit_of (f (suc n)) (2 ^ n)

-- with one month more
module _ (f : ℕ → Bool) where
  month_more : (m x : ℕ) (t : Bool) → f (suc m) ≡ t → m ≤ 11 → x ≡ masked f m → x + 1 ≤ 2 ^ m →
      (x + from_bool t * 2 ^ m % 4294967296 ≡ masked f (suc m)) × (x + from_bool t * 2 ^ m % 4294967296 + 1 ≤ 2 ^ suc m)
  month_more m x true q h e l =
      let p : 2 ^ m ≤ 2048 = pow_mono {i = m} {j = 11} h in
      let d : 1 * 2 ^ m % 4294967296 ≡ 2 ^ m = omega arith in
      rw (d, q) (omega arith, omega (arith, pow-suc 2 m))
  month_more m x false q h e l = rw q (omega arith, omega (arith, pow-suc 2 m))

  pub masked_more : (m x : ℕ) → 1 ≤ m → m ≤ 12 → x ≡ masked f (m - 1) → x + 1 ≤ 2 ^ (m - 1) →
      (x + from_bool (f m) * 2 ^ (m - 1) % 4294967296 ≡ masked f (m + 1 - 1)) × (x + from_bool (f m) * 2 ^ (m - 1) % 4294967296 + 1 ≤ 2 ^ (m + 1 - 1))
  masked_more zero x h k e l = absurd (omega arith)
  masked_more (suc m) x h k e l =
      let p : suc m - 1 ≡ m = omega arith in
      let q : suc m + 1 - 1 ≡ suc m = omega arith in
      rw (q, p) (month_more m x (f (suc m)) refl (omega arith) (rw p at e) (rw p at l))

pub all_masked : (f : ℕ → Bool) (n : ℕ) → n ≡ 12 → masked f n ≡ mask f
unfolding mask
all_masked f n e = rw e (omega arith)
