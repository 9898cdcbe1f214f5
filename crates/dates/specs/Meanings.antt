-- What dates and months mean (docs/RULES.md, 4).
use Rattle.std.specs.Prelude.{ℕ, Bool, true, false, ◌&&◌, ◌||◌, not, ℤ, pos, Option, Some, None, Result, Ok, Err, if◌then◌else◌}
use Rattle.std.specs.Int.Signed.{le_z}
use Rattle.names.specs.Tests.{within}
use Rattle.names.specs.declared.refusals.Reason.{Reason}
use Rattle.names.specs.declared.refusals.Reason.TheVariants.{Range, EasterDay}
use Rattle.records.specs.Items.{Meant, signed}
use Rattle.records.specs.declared.Day.{Day}
use Rattle.records.specs.declared.Day.TheVariants.{Fixed, Weekday, Easter}
use Rattle.records.specs.declared.Date.{Date}
use Rattle.records.specs.declared.DateOffset.{DateOffset}
use Rattle.records.specs.declared.Odd.{Odd}
use Rattle.records.specs.declared.Item.TheVariants.{Dates, Months}
use Rattle.days.specs.Offsets.{good_days}
use Rattle.days.specs.declared.RawOffset.{RawOffset}
use Rattle.dates.specs.Years.{good_year}
use Rattle.dates.specs.BareEnds.{date_of, year_month, bare_end, last_day}
use Rattle.dates.specs.declared.RawMonths.{RawMonths}
use Rattle.dates.specs.declared.RawDate.{RawDate}
use Rattle.dates.specs.declared.RawEnd.{RawEnd}
use Rattle.dates.specs.declared.RawEnd.TheVariants.{Nothing, Plus, Until, Bare}
use Rattle.dates.specs.declared.RawDates.{RawDates}

-- a year that is there is in range
abbrev pub good_years : Option ℕ → Bool
good_years None = true
good_years (Some y) = good_year y

-- from lo to hi
abbrev pub between : ℤ → ℤ → ℤ → Bool
between lo hi n = le_z lo n && le_z n hi

-- n from 1 to 5, from the month's start or from its end
unfoldable pub good_nth : ℤ → Bool
good_nth n = between (pos 1) (pos 5) n || between (signed true 5) (signed true 1) n

-- D from 1 to 31, n from 1 to 5
abbrev pub good_day : Day → Bool
good_day (Fixed m d) = within 1 31 d
good_day (Weekday m w n) = good_nth n
good_day Easter = true

-- a date in range
abbrev pub good_date : RawDate → Bool
good_date d = good_years d.year && good_day d.day

-- an end in range
abbrev pub good_end : RawEnd → Bool
good_end Nothing = true
good_end Plus = true
good_end (Until d o) = good_date d && good_days o.days
good_end (Bare d o) = within 1 31 d && good_days o.days

-- a date item in range
abbrev pub good_dates : RawDates → Bool
good_dates r = good_date r.date && good_days (r.offset).days && good_end r.end

-- the year, or 0
abbrev pub year_of : Option ℕ → ℕ
year_of None = 0
year_of (Some y) = y

-- a date as it was read
abbrev pub dated : RawDate → Date
dated d = date_of (year_of d.year) d.day

-- an offset in range
abbrev pub offset_of : RawOffset → DateOffset
offset_of o = record { wday = o.wday; days = o.days }

-- no offset
abbrev pub no_offset : DateOffset
no_offset = record { wday = signed false 0; days = signed false 0 }

-- which names of a date and its offset call for a warning
abbrev pub odd_of : RawDate → RawOffset → Odd
odd_of d o = record { name = d.odd_name; weekday = d.odd_weekday; offset = o.odd }

-- of a bare day, which has no name, and its offset
abbrev pub bare_odd : RawOffset → Odd
bare_odd o = record { name = false; weekday = false; offset = o.odd }

-- of an end that is not written
abbrev pub no_odd : Odd
no_odd = record { name = false; weekday = false; offset = false }

-- dates from one to another, and which names of each call for a warning
abbrev pub dates : Date → DateOffset → Date → DateOffset → Odd → Odd → Meant
dates d o e p x y = Ok (Dates (record { start = d; start_offset = o; end = e; end_offset = p; odd_start = x; odd_end = y }))

-- a bare day after a start of each form: after a fixed date by the calendar, after a weekday date its month and year, after easter refused
abbrev pub bare : Date → DateOffset → ℕ → DateOffset → Odd → Odd → Day → Meant
bare s o e p x y (Fixed m d) = dates s o (bare_end (year_month s.year m) d e) p x y
bare s o e p x y (Weekday m w n) = dates s o (date_of s.year (Fixed m e)) p x y
bare s o e p x y Easter = Err EasterDay

-- the date of that end alone, where there is one
abbrev pub bare_date : Date → ℕ → Day → Result Date Reason
bare_date s e (Fixed m d) = Ok (bare_end (year_month s.year m) d e)
bare_date s e (Weekday m w n) = Ok (date_of s.year (Fixed m e))
bare_date s e Easter = Err EasterDay

-- from a start to each kind of end: no end is the start with its offset
abbrev pub ended : Date → DateOffset → Odd → RawEnd → Meant
ended s o x Nothing = dates s o s o x no_odd
ended s o x Plus = dates s o (last_day s.year) no_offset x no_odd
ended s o x (Until e p) = dates s o (dated e) (offset_of p) x (odd_of e p)
ended s o x (Bare e p) = bare s o e (offset_of p) x (bare_odd p) s.day

-- the meaning of a date item
unfoldable pub date_meaning : RawDates → Meant
date_meaning r = if not (good_dates r) then Err Range else ended (dated r.date) (offset_of r.offset) (odd_of r.date r.offset) r.end

-- the meaning of months, which go round: only the year is judged
unfoldable pub month_meaning : RawMonths → Meant
month_meaning r =
    if not (good_years r.year) then Err Range
    else Ok (Months (record { year = year_of r.year; first = r.first; last = r.last; odd_first = r.odd_first; odd_last = r.odd_last }))
