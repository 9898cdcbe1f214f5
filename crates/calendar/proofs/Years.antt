-- What the calendar says of years.
use Rattle.std.specs.Prelude.{if◌then◌else◌}
use Prim.Native.Nat.{◌%◌, ◌/◌}
use mathlib.Core.Bool.{Bool, true, false, not, ◌&&◌, ◌||◌, true≢false}
use mathlib.Core.Logic.{◌⊎◌, inl, inr, ⊎_elim}
use mathlib.Core.Path.{◌≡◌, refl, sym}
use native.Mathlib.Omega.{arith}
use borrow.Author.Tests.{eq-eqb, ne_eqb, eqb-true, eqb-false}
use lib.Dec.{eqb}
use Rattle.calendar.specs.Calendar.{leap, last_of_february, last_of, has_thirty}
use Rattle.calendar.specs.Years.{Multiple, LeapYears, days_of, YearDays}

pub leap_years : LeapYears
unfolding leap
leap_years y = (go (eqb (y % 4) 0) refl (eqb (y % 100) 0) refl (eqb (y % 400) 0) refl, ⊎_elim by_four by_hundreds)
  where
    go : (a : Bool) → eqb (y % 4) 0 ≡ a → (b : Bool) → eqb (y % 100) 0 ≡ b → (c : Bool) → eqb (y % 400) 0 ≡ c → (a && (not b || c)) ≡ true → (Multiple 4 y × (Multiple 100 y → ⊥)) ⊎ Multiple 400 y
    go false p b q c r h = absurd (true≢false (sym h))
    go true p false q c r h = inl ((y / 4, omega (arith, eqb-true (y % 4) 0 p)), λ m. eqb-false (y % 100) 0 q (omega (arith, m.1)))
    go true p true q true r h = inr (y / 400, omega (arith, eqb-true (y % 400) 0 r))
    go true p true q false r h = absurd (true≢false (sym h))

    by_four : Multiple 4 y × (Multiple 100 y → ⊥) → leap y ≡ true
    by_four m = rw (eq-eqb (y % 4) 0 (omega (arith, m.0.1)), ne_eqb (y % 100) 0 (λ z. m.1 (y / 100, omega arith)))

    by_hundreds : Multiple 400 y → leap y ≡ true
    by_hundreds m = rw (eq-eqb (y % 4) 0 (omega (arith, m.1)), eq-eqb (y % 400) 0 (omega (arith, m.1))) (either (not (eqb (y % 100) 0)))
      where
        either : (t : Bool) → (t || true) ≡ true
        either true = refl
        either false = refl

pub year_days : YearDays
unfolding last_of last_of_february has_thirty
year_days y h = go (leap y) refl
  where
    go : (t : Bool) → leap y ≡ t → days_of y ≡ (if t then 366 else 365)
    go true q = rw (ne_eqb y 0 (λ e. omega arith), q)
    go false q = rw (ne_eqb y 0 (λ e. omega arith), q)
