-- What good dates have: names in range.
use Prim.Native.Nat.{ℕ, zero, suc, ◌-◌, ◌≤◌, ◌<◌, ◌^◌}
use native.Mathlib.Omega.{arith}
use mathlib.Core.Bool.{Bool, true, false, ◌||◌, true≢false}
use mathlib.Core.Path.{◌≡◌, refl, sym, ap, ◌∙◌}
use borrow.Author.Tests.{eqb-true, eq-eqb, ne_eqb}
use lib.Dec.{eqb}
use lib.IntN.{ℤ, pos, negsuc, nat_abs}
use mathlib.Core.List.{[]}
use lib.ListN.{get_or}
use lib.Signed.{mag}
use mir.Syntax.{w16}
use mir.Val.{of_z, to_z}
use Rattle.names.specs.Names.{weekday, month}
use Rattle.records.specs.declared.MonthSpan.{MonthSpan}
use Rattle.records.specs.declared.Day.TheVariants.{Fixed, Weekday}
use Rattle.records.specs.declared.DateOffset.{DateOffset}
use Rattle.records.specs.declared.DateSpan.{DateSpan}
use Rattle.sheet_texts.specs.Names.{written, is_in, letters_in}
use Rattle.date_texts.specs.declared.TheConstants.{MONTHS}
use Rattle.sheet_texts.specs.Dates as texts
use Rattle.sheet_texts.proofs.Tests.{both}
use Rattle.sheet_texts.specs.Numbers.{same_number}
use Rattle.sheet_texts.proofs.Named.{same_test, month_range_lem, weekday_range}
use Rattle.records.proofs.Laws.{half_fits}

-- the table's names are those that are written
month_at : (k : ℕ) → k < 12 → get_or MONTHS k [] ≡ letters_in written (month, suc k)
unfolding letters_in written
month_at zero h = refl
month_at (suc zero) h = refl
month_at (suc (suc zero)) h = refl
month_at (suc (suc (suc zero))) h = refl
month_at (suc (suc (suc (suc zero)))) h = refl
month_at (suc (suc (suc (suc (suc zero))))) h = refl
month_at (suc (suc (suc (suc (suc (suc zero)))))) h = refl
month_at (suc (suc (suc (suc (suc (suc (suc zero))))))) h = refl
month_at (suc (suc (suc (suc (suc (suc (suc (suc zero)))))))) h = refl
month_at (suc (suc (suc (suc (suc (suc (suc (suc (suc zero))))))))) h = refl
month_at (suc (suc (suc (suc (suc (suc (suc (suc (suc (suc zero)))))))))) h = refl
month_at (suc (suc (suc (suc (suc (suc (suc (suc (suc (suc (suc zero))))))))))) h = refl
month_at (suc (suc (suc (suc (suc (suc (suc (suc (suc (suc (suc (suc k)))))))))))) h = absurd (omega arith)

pub month_name : (n : ℕ) → 1 ≤ n → n ≤ 12 → get_or MONTHS (n - 1) [] ≡ letters_in written (month, n)
month_name zero g h = absurd (omega arith)
month_name (suc k) g h = let e : suc k - 1 ≡ k = omega arith in rw e (month_at k (omega arith))

pub months_range : (r : MonthSpan) → texts.good_months r ≡ true → ((1 ≤ r.first) × (r.first ≤ 12)) × ((1 ≤ r.last) × (r.last ≤ 12))
unfolding texts.good_months
months_range r g = let b = both (is_in written (month, r.first)) (both (texts.good_year r.year) g).1 in (month_range_lem r.first b.0, month_range_lem r.last b.1)

pub fixed_range : (m d : ℕ) → texts.good_day (Fixed m d) ≡ true → (1 ≤ m) × (m ≤ 12)
unfolding texts.good_day
fixed_range m d g = month_range_lem m (both (is_in written (month, m)) g).0

pub nth_range : (m w : ℕ) (n : ℤ) → texts.good_day (Weekday m w n) ≡ true → ((1 ≤ m) × (m ≤ 12)) × ((1 ≤ w) × (w ≤ 7))
unfolding texts.good_day
nth_range m w n g = let a = both (is_in written (month, m)) g in (month_range_lem m a.0, weekday_range w (both (is_in written (weekday, w)) a.1).0)

pub offset_range : (o : DateOffset) → texts.good_offset o ≡ true → nat_abs o.wday ≤ 7
unfolding texts.good_offset
offset_range o g = go (eqb (nat_abs o.wday) 0) refl (both (eqb (nat_abs o.wday) 0 || is_in written (weekday, nat_abs o.wday)) g).0
  where
    go : (t : Bool) → eqb (nat_abs o.wday) 0 ≡ t → (t || is_in written (weekday, nat_abs o.wday)) ≡ true → nat_abs o.wday ≤ 7
    go true e h = omega (arith, eqb-true (nat_abs o.wday) 0 e)
    go false e h = (weekday_range (nat_abs o.wday) h).1

pub end_good : (r : DateSpan) → texts.good_end r ≡ true → ((r.end).year ≡ 10000 → ⊥) → texts.good_date r.end ≡ true
unfolding texts.good_end
end_good r g n = rw (ne_eqb (r.end).year 10000 n) at g

-- the parts of good dates
pub record Parts (r : DateSpan) : Type 0 where
  pub start : texts.good_date r.start ≡ true
  pub offset : texts.good_offset r.start_offset ≡ true
  pub end_offset : texts.good_offset r.end_offset ≡ true
  pub end : texts.good_end r ≡ true

pub parts : (r : DateSpan) → texts.good_dates r ≡ true → Parts r
unfolding texts.good_dates
parts r g =
    let a = both (texts.good_date r.start) g in
    let b = both (texts.good_offset r.start_offset) a.1 in
    let d = both (texts.good_offset r.end_offset) b.1 in
    record { start = a.0; offset = b.0; end_offset = d.0; end = d.1 }

-- numbers of 16 bits are the same where their bits are
number_is : (x y : ℤ) → same_number x y ≡ true → x ≡ y
number_is (pos a) (pos b) e = ap pos (eqb-true a b e)
number_is (pos a) (negsuc b) e = absurd (true≢false (sym e))
number_is (negsuc a) (pos b) e = absurd (true≢false (sym e))
number_is (negsuc a) (negsuc b) e = ap negsuc (eqb-true a b e)

number_same : (x : ℤ) → same_number x x ≡ true
number_same (pos a) = eq-eqb a a refl
number_same (negsuc a) = eq-eqb a a refl

pub half_same : (x y : ℤ) → mag x < 2 ^ 15 → mag y < 2 ^ 15 → eqb (of_z w16 x) (of_z w16 y) ≡ same_number x y
half_same x y h k = same_test (eqb (of_z w16 x) (of_z w16 y)) (same_number x y) there back
  where
    there : eqb (of_z w16 x) (of_z w16 y) ≡ true → same_number x y ≡ true
    there e = let q : x ≡ y = sym (half_fits x h) ∙ ap (to_z w16) (eqb-true (of_z w16 x) (of_z w16 y) e) ∙ half_fits y k in rw q (number_same y)

    back : same_number x y ≡ true → eqb (of_z w16 x) (of_z w16 y) ≡ true
    back e = eq-eqb (of_z w16 x) (of_z w16 y) (ap (of_z w16) (number_is x y e))
