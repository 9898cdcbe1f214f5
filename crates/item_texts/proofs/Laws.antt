-- Tests of items as the code makes them, by the size of a number; and weeks' word.
use Prim.Native.Nat.{ℕ, zero, suc, ◌≤◌}
use native.Mathlib.Omega.{arith}
use mathlib.Core.Bool.{Bool, true, false, ◌&&◌, ◌||◌, true≢false}
use mathlib.Core.Path.{◌≡◌, refl, sym, ◌∙◌}
use borrow.Author.Tests.{eqb-true, leb-true, le-leb}
use lib.Dec.{eqb, leb}
use lib.IntN.{ℤ, pos, negsuc, nat_abs}
use Rattle.names.specs.Tests.{within}
use Rattle.names.specs.Names.{weekday, holiday}
use Rattle.names.proofs.Laws.{within_range, within_true}
use Rattle.records.specs.declared.Item.{Item}
use Rattle.records.specs.declared.Item.TheVariants.{Years, Months, Dates, Weeks, Weekdays, Holidays, Times}
use Rattle.records.specs.declared.Holiday.{Holiday}
use Rattle.records.specs.declared.WeekRange.{WeekRange}
use Rattle.dates.specs.Meanings.{good_nth}
use Rattle.sheet_texts.specs.Names.{written, is_in}
use Rattle.sheet_texts.specs.Days.{good_holiday}
use Rattle.sheet_texts.specs.Items.{item_text, full}
use Rattle.sheet_texts.proofs.Tests.{both}
use Rattle.sheet_texts.proofs.Named.{same_test, weekday_is, holiday_range}

or_false : (b : Bool) → (b || false) ≡ b
or_false true = refl
or_false false = refl

-- which one of the month: its size is from 1 to 5
pub nth_is : (x : ℤ) → good_nth x ≡ within 1 5 (nat_abs x)
unfolding good_nth within
nth_is (pos n) = or_false (leb 1 n && leb n 5)
nth_is (negsuc n) = same_test (leb n 4 && leb 0 n) (within 1 5 (suc n)) there back
  where
    there : (leb n 4 && leb 0 n) ≡ true → within 1 5 (suc n) ≡ true
    there e = within_true 1 5 (suc n) (omega arith) (omega (arith, leb-true n 4 (both (leb n 4) e).0))

    back : within 1 5 (suc n) ≡ true → (leb n 4 && leb 0 n) ≡ true
    back e = let q = within_range 1 5 (suc n) e in rw (le-leb n 4 (omega (arith, q.1)), le-leb 0 n (omega arith))

-- the weekday of an offset, or none
pub wday_is : (n : ℕ) → (eqb n 0 || is_in written (weekday, n)) ≡ leb n 7
wday_is n = same_test (eqb n 0 || is_in written (weekday, n)) (leb n 7) (λ e. go (eqb n 0) refl e) back
  where
    go : (t : Bool) → eqb n 0 ≡ t → (t || is_in written (weekday, n)) ≡ true → leb n 7 ≡ true
    go true z e = le-leb n 7 (omega (arith, eqb-true n 0 z))
    go false z e = le-leb n 7 (within_range 1 7 n (sym (weekday_is n) ∙ e)).1

    at : (t : Bool) → eqb n 0 ≡ t → n ≤ 7 → (t || is_in written (weekday, n)) ≡ true
    at true z h = refl
    at false z h = weekday_is n ∙ within_true 1 7 n (positive n z) h
      where
        positive : (n : ℕ) → eqb n 0 ≡ false → 1 ≤ n
        positive zero z = absurd (true≢false z)
        positive (suc n) z = omega arith

    back : leb n 7 ≡ true → (eqb n 0 || is_in written (weekday, n)) ≡ true
    back e = at (eqb n 0) refl (leb-true n 7 e)

-- weeks have their word before their first, other items have none
pub full_plain : (a : Item) → ((r : WeekRange) → a ≡ Weeks r → ⊥) → full a ≡ item_text a
full_plain (Years r) n = refl
full_plain (Months r) n = refl
full_plain (Dates r) n = refl
full_plain (Weeks r) n = absurd (n r refl)
full_plain (Weekdays r) n = refl
full_plain (Holidays r) n = refl
full_plain (Times r) n = refl

-- a holiday's name is in range
pub holiday_named : (r : Holiday) → good_holiday r ≡ true → (1 ≤ r.kind) × (r.kind ≤ 2)
unfolding good_holiday
holiday_named r g = holiday_range r.kind (both (is_in written (holiday, r.kind)) g).0
