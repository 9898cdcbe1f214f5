-- What is proved of the calendar besides, in other words than its definition: which years are leap years, and how many days a year has (docs/RULES.md, 4).
use Rattle.std.specs.Prelude.{ℕ, ◌+◌, ◌*◌, ◌≤◌, true, ◌⊎◌, ◌↔◌, ◌≡◌, if◌then◌else◌}
use Rattle.calendar.specs.Calendar.{leap, last_of}

-- n is a multiple of k
abbrev pub Multiple : ℕ → ℕ → Type 0
Multiple k n = (q : ℕ) × (n ≡ q * k)

-- the leap years are the multiples of 4 that are no multiples of 100, and the multiples of 400
abbrev pub LeapYears : Type 0
LeapYears = (y : ℕ) → (leap y ≡ true) ↔ ((Multiple 4 y × (Multiple 100 y → ⊥)) ⊎ Multiple 400 y)

-- the days of a year, month by month
abbrev pub days_of : ℕ → ℕ
days_of y =
    last_of y 1 + last_of y 2 + last_of y 3 + last_of y 4 + last_of y 5 + last_of y 6
    + last_of y 7 + last_of y 8 + last_of y 9 + last_of y 10 + last_of y 11 + last_of y 12

-- a leap year has 366 days, any other 365
abbrev pub YearDays : Type 0
YearDays = (y : ℕ) → 1 ≤ y → days_of y ≡ (if leap y then 366 else 365)
