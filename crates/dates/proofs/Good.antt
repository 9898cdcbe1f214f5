-- What a good date item says of its parts.
use Rattle.std.specs.Prelude.{Option, Some, None, if◌then◌else◌}
use Prim.Native.Nat.{ℕ, suc, ◌≤◌}
use mathlib.Core.Bool.{Bool, true, false, ◌&&◌, and-eq-true_iff}
use mathlib.Core.Path.{◌≡◌}
use native.Mathlib.Omega.{arith}
use lib.Dec.{ltb, eqb}
use Rattle.names.proofs.Laws.{within_range}
use Rattle.days.specs.Offsets.{good_days}
use Rattle.dates.specs.BareEnds.{next_year, year_month, next_month}
use Rattle.dates.specs.Meanings.{good_years, good_day, good_date, good_end, good_dates, year_of}
use Rattle.dates.specs.declared.YearMonth.{YearMonth}
use Rattle.dates.specs.declared.RawDates.{RawDates}

-- a good year is at most 9999, and so is the 0 of none
pub year_small : (y : Option ℕ) → good_years y ≡ true → year_of y ≤ 9999
year_small None h = omega arith
year_small (Some n) h = (within_range 1900 9999 n h).1

-- the year of the next month is at most one more
pub next_small : (a : YearMonth) → (next_month a).year ≤ suc a.year
unfolding next_month next_year
next_small a = go (ltb a.month 12) (eqb a.year 0)
  where
    go : (t u : Bool) → (if t then year_month a.year (suc a.month) else year_month (if u then 0 else suc a.year) 1).year ≤ suc a.year
    go true u = omega arith
    go false true = omega arith
    go false false = omega arith

-- the start's year is good, and so small; the end is good
pub record Good (r : RawDates) : Type 0 where
  pub years : good_years r.date.year ≡ true
  pub year : year_of r.date.year ≤ 9999
  pub end : good_end r.end ≡ true

pub dates_good : (r : RawDates) → good_dates r ≡ true → Good r
dates_good r h =
    let p = (and-eq-true_iff (good_date r.date && good_days r.offset.days) (good_end r.end)).0 h in
    let q = (and-eq-true_iff (good_date r.date) (good_days r.offset.days)).0 p.0 in
    let d = (and-eq-true_iff (good_years r.date.year) (good_day r.date.day)).0 q.0 in
    record { years = d.0; year = year_small r.date.year d.0; end = p.1 }

-- so the start's year is small
pub start_small : (r : RawDates) → good_dates r ≡ true → year_of r.date.year ≤ 9999
start_small r h = (dates_good r h).year
