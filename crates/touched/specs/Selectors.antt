-- Whether a day selector touches a day.
use Rattle.std.specs.Prelude.{ℕ, ◌+◌, ◌-◌, ◌*◌, Bool, false, ◌&&◌, ◌||◌, leb, eqb, ℤ, pos, negsuc, if◌then◌else◌}
use Rattle.names.specs.Tests.{within}
use Rattle.calendar.specs.Calendar.{divisible}
use Rattle.records.specs.declared.Day.{Day}
use Rattle.records.specs.declared.Day.TheVariants.{Fixed, Weekday, Easter}
use Rattle.records.specs.declared.DateOffset.{DateOffset}
use Rattle.records.specs.declared.YearRange.{YearRange}
use Rattle.records.specs.declared.MonthSpan.{MonthSpan}
use Rattle.records.specs.declared.DateSpan.{DateSpan}
use Rattle.records.specs.declared.WeekRange.{WeekRange}
use Rattle.records.specs.declared.WeekDayRange.{WeekDayRange}
use Rattle.records.specs.declared.Item.{Item}
use Rattle.records.specs.declared.Item.TheVariants.{Years, Months, Dates, Weeks, Weekdays, Holidays, Times}
use Rattle.almanac.specs.declared.OnDay.{OnDay}
use Rattle.touched.specs.Touches.{decided}
use Rattle.touched.specs.declared.Touch.{Touch}
use Rattle.touched.specs.declared.Touch.TheVariants.{Undecided, Yes}

-- n is in the range and on a step, counted from the first; step 0: only the first
unfoldable pub stepped : ℕ → ℕ → ℕ → ℕ → Bool
stepped first last step n = within first last n && (if eqb step 0 then eqb n first else divisible step (n - first))

-- from first to last, going round where last is less
unfoldable pub round : ℕ → ℕ → ℕ → Bool
round first last n = if leb first last then within first last n else (leb first n || leb n last)

-- zero, of a number with a sign
unfoldable pub is_zero : ℤ → Bool
is_zero (pos n) = eqb n 0
is_zero (negsuc n) = false

-- ---- years and weeks, by range and step

abbrev pub years_touch : YearRange → OnDay → Touch
years_touch r d = decided (stepped r.first r.last r.step d.year)

abbrev pub weeks_touch : WeekRange → OnDay → Touch
weeks_touch r d = decided (stepped r.first r.last r.step d.week)

-- ---- months go round; those of a year that run backwards are undecided

unfoldable pub months_touch : MonthSpan → OnDay → Touch
months_touch r d =
    if eqb r.year 0 then decided (round r.first r.last d.month)
    else if leb r.first r.last then decided (eqb r.year d.year && within r.first r.last d.month)
    else Undecided

-- ---- dates, as numbers: 5 January is 105, and 20240105 with its year

abbrev pub month_day : ℕ → ℕ → ℕ
month_day m d = m * 100 + d

abbrev pub dated : ℕ → ℕ → ℕ → ℕ
dated y m d = y * 10000 + month_day m d

-- from day s of year y to day e of year z (0: no year)
unfoldable pub fixed_touch : ℕ → ℕ → ℕ → ℕ → OnDay → Touch
fixed_touch y s z e d =
    if eqb y 0 && eqb z 0 then decided (round s e (month_day d.month d.day))
    else if eqb y 0 || eqb z 0 then Undecided
    else decided (within (y * 10000 + s) (z * 10000 + e) (dated d.year d.month d.day))

-- both ends fixed
unfoldable pub ends_touch : ℕ → Day → ℕ → Day → OnDay → Touch
ends_touch y (Fixed m d) z (Fixed n e) = fixed_touch y (month_day m d) z (month_day n e)
ends_touch y (Fixed m d) z (Weekday n w k) = λ x. Undecided
ends_touch y (Fixed m d) z Easter = λ x. Undecided
ends_touch y (Weekday m w k) z b = λ x. Undecided
ends_touch y Easter z b = λ x. Undecided

unfoldable pub no_offset : DateOffset → Bool
no_offset o = is_zero o.wday && is_zero o.days

-- without offsets
unfoldable pub dates_touch : DateSpan → OnDay → Touch
dates_touch r d = if no_offset r.start_offset && no_offset r.end_offset then ends_touch (r.start).year (r.start).day (r.end).year (r.end).day d else Undecided

-- ---- weekdays go round; an offset is undecided, and so are marks unless all ten are set

unfoldable pub weekdays_touch : WeekDayRange → OnDay → Touch
weekdays_touch r d = if is_zero r.days && (eqb r.starts 31 && eqb r.ends 31) then decided (round r.first r.last d.weekday) else Undecided

-- ---- an item; holidays are undecided, and times are no day selectors

unfoldable pub touch : OnDay → Item → Touch
touch d (Years r) = years_touch r d
touch d (Months r) = months_touch r d
touch d (Dates r) = dates_touch r d
touch d (Weeks r) = weeks_touch r d
touch d (Weekdays r) = weekdays_touch r d
touch d (Holidays r) = Undecided
touch d (Times r) = Yes
