-- The days before a month, by the code's table.
use Rattle.std.specs.Prelude.{if◌then◌else◌}
use Prim.Native.Nat.{ℕ, zero, suc, ◌+◌, ◌-◌, ◌≤◌}
use mathlib.Core.Bool.{Bool, true, false, ◌||◌}
use mathlib.Core.Path.{◌≡◌, refl}
use native.Mathlib.Omega.{arith}
use borrow.Author.Tests.{eqb-true}
use lib.Dec.{eqb}
use lib.ListN.{get_or}
use mir.Val.{bool_byte}
use Rattle.calendar.specs.Calendar.{leap, last_of, last_of_february, has_thirty}
use Rattle.almanac.specs.Numbers.{days_of_months}
use Rattle.almanac.specs.declared.day_numbers.TheConstants.{DAYS_BEFORE}

-- year 0, which stands for no year, is a leap year by its number too
none_leaps : (y : ℕ) → eqb y 0 ≡ true → leap y ≡ true
unfolding leap
none_leaps y p = rw (eqb-true y 0 p)

-- February has 28 days, and in a leap year one more
february : (y : ℕ) → last_of_february y ≡ 28 + bool_byte (leap y)
unfolding last_of_february
february y = go (eqb y 0) refl (leap y) refl
  where
    go : (t : Bool) → eqb y 0 ≡ t → (u : Bool) → leap y ≡ u → (if t || u then 29 else 28) ≡ 28 + bool_byte u
    go false p true q = refl
    go false p false q = refl
    go true p true q = refl
    go true p false q = cc (none_leaps y p)

module _ (y : ℕ) where
  -- until February ends, the table has the days of the first k months
  first_months : (k : ℕ) → k ≤ 1 → get_or DAYS_BEFORE k 0 ≡ days_of_months y k
  unfolding days_of_months last_of has_thirty
  first_months zero h = refl
  first_months (suc zero) h = refl
  first_months (suc (suc k)) h = absurd (omega arith)

  -- from its end on, a leap year has a day more
  later_months : (k : ℕ) → k ≤ 9 → get_or DAYS_BEFORE (suc (suc k)) 0 + bool_byte (leap y) ≡ days_of_months y (suc (suc k))
  unfolding days_of_months last_of has_thirty
  later_months zero h = omega (arith, february y)
  later_months (suc zero) h = omega (arith, february y)
  later_months (suc (suc zero)) h = omega (arith, february y)
  later_months (suc (suc (suc zero))) h = omega (arith, february y)
  later_months (suc (suc (suc (suc zero)))) h = omega (arith, february y)
  later_months (suc (suc (suc (suc (suc zero))))) h = omega (arith, february y)
  later_months (suc (suc (suc (suc (suc (suc zero)))))) h = omega (arith, february y)
  later_months (suc (suc (suc (suc (suc (suc (suc zero))))))) h = omega (arith, february y)
  later_months (suc (suc (suc (suc (suc (suc (suc (suc zero)))))))) h = omega (arith, february y)
  later_months (suc (suc (suc (suc (suc (suc (suc (suc (suc zero))))))))) h = omega (arith, february y)
  later_months (suc (suc (suc (suc (suc (suc (suc (suc (suc (suc k)))))))))) h = absurd (omega arith)

  pub until_march : (m : ℕ) → 1 ≤ m → m ≤ 2 → get_or DAYS_BEFORE (m - 1) 0 ≡ days_of_months y (m - 1)
  until_march m g h = first_months (m - 1) (omega arith)

  pub from_march : (m : ℕ) → 3 ≤ m → m ≤ 12 → get_or DAYS_BEFORE (m - 1) 0 + bool_byte (leap y) ≡ days_of_months y (m - 1)
  from_march m g h = let e : m - 1 ≡ suc (suc (m - 3)) = omega arith in rw e (later_months (m - 3) (omega arith))
