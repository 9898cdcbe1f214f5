-- The rule of the bare end day: the first day of the calendar with that number, not before the start. And the last day, for `+` (docs/RULES.md, 4).
use Rattle.std.specs.Prelude.{ℕ, suc, leb, ltb, eqb, if◌then◌else◌}
use Rattle.calendar.specs.Calendar.{is_day}
use Rattle.records.specs.declared.Day.{Day}
use Rattle.records.specs.declared.Day.TheVariants.{Fixed}
use Rattle.records.specs.declared.Date.{Date}
use Rattle.dates.specs.declared.YearMonth.{YearMonth}

-- a date with its year or 0
abbrev pub date_of : ℕ → Day → Date
date_of year day = record { year = year; day = day }

-- a present year plus 1
unfoldable pub next_year : ℕ → ℕ
next_year y = if eqb y 0 then 0 else suc y

-- a month of a year, or of none (0)
abbrev pub year_month : ℕ → ℕ → YearMonth
year_month y m = record { year = y; month = m }

-- the next month: December gives January, a present year plus 1. Without a year, months go round
unfoldable pub next_month : YearMonth → YearMonth
next_month a = if ltb a.month 12 then year_month a.year (suc a.month) else year_month (next_year a.year) 1

-- the first month in which day e does not come before day d of month a, as numbers: month a, or the next
unfoldable pub month_from : YearMonth → ℕ → ℕ → YearMonth
month_from a d e = if leb d e then a else next_month a

-- the first month with a day e by the calendar, of month a and those after it: of two months in a row, one has 31 days
unfoldable pub first_with : ℕ → YearMonth → YearMonth
first_with e a = if is_day a.year a.month e then a else next_month a

-- day e of a month
abbrev pub day_in : ℕ → YearMonth → Date
day_in e a = date_of a.year (Fixed a.month e)

-- bare end day e after day d of month a: the first day of the calendar with that number, not before the start
unfoldable pub bare_end : YearMonth → ℕ → ℕ → Date
bare_end a d e = day_in e (first_with e (month_from a d e))

-- `+`: 31 December, of 9999 if the start has a year, else yearless
unfoldable pub last_day : ℕ → Date
last_day y = date_of (if eqb y 0 then 0 else 9999) (Fixed 12 31)
