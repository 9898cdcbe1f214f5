-- Worked examples of documents 01, 03 and 04 (section 8), as the definitions compute them.
use Prim.Native.Nat.{ℕ}
use Prim.Native.String.{String}
use mathlib.Core.Bool.{true, false}
use mathlib.Core.List.{List, [], ◌∷◌, map}
use mathlib.Core.Path.{◌≡◌, refl}
use Rattle.names.specs.Tests.{within}
use Rattle.names.specs.Read.{Read, got, none, refused, one, ahead}
use Rattle.names.specs.Chain.{chain_in, chain, many, skip}
use Rattle.names.specs.Texts.{bytes, byte, all_of, blanks, blank}
use Rattle.names.specs.Numbers.{is_digit, digit, up_to, digits, clock_after, number}
use Rattle.names.specs.Names.{names, spelled_so, lower, letter, first_of, word, name}
use Rattle.names.specs.Spellings.{all_small, well_begun, well_written, warns, odd, named, spelled}
use Rattle.calendar.specs.Calendar.{leap, last_of_february, has_thirty, last_of, is_day}
use Rattle.records.specs.Items.{signed}
use lib.IntN.{ℤ}
use Rattle.records.specs.declared.Day.TheVariants.{Fixed, Weekday, Easter}
use Rattle.records.specs.declared.Date.{Date}
use Rattle.records.specs.declared.DateOffset.{DateOffset}
use Rattle.records.specs.declared.Item.{Item}
use Rattle.records.specs.declared.Item.TheVariants.{Years, Months, Dates, Weeks}
use Rattle.days.specs.Offsets.{plus_or_minus, day_offset, any_days, wday_offset, offset}
use Rattle.dates.specs.Ranges.{stepped, until_last, good_range, step_of}
use Rattle.dates.specs.Years.{year_after, year_shape, year_meaning, year_item}
use Rattle.dates.specs.Weeks.{week_shape, week_meaning, week_item}
use Rattle.dates.specs.Dates.{optional_year, back_nth, front_nth, nth, weekday_of, day_of, day_after, date}
use Rattle.dates.specs.Ends.{until_date, bare_day, until, end_shape, dates_after}
use Rattle.dates.specs.BareEnds.{date_of, next_year, next_month, month_from, first_with, bare_end, last_day}
use Rattle.dates.specs.Meanings.{no_offset, no_odd, good_nth, date_meaning, month_meaning}
use Rattle.dates.specs.MonthDays.{last_month, month_after, month_item_after, date_item_after, month_day_after, month_day_item}

-- years and weeks from first to last, each step'th
years : ℕ → ℕ → ℕ → Item
years first last step = Years (record { first = first; last = last; step = step })

weeks : ℕ → ℕ → ℕ → Item
weeks first last step = Weeks (record { first = first; last = last; step = step })

-- a text, a place in it, and what is read there: 4 before 6, a step above last minus first becomes 1, and step 0 is kept
year_texts : List (String × (ℕ × Read Item))
year_texts =
    ("2020", (0, got (years 2020 2020 1) 4))
    ∷ ("2020+ Jan", (0, got (years 2020 9999 1) 5))
    ∷ ("9999+", (0, got (years 9999 9999 1) 5))
    ∷ ("2020-2022/2", (0, got (years 2020 2022 2) 11))
    ∷ ("2020-2022/3", (0, got (years 2020 2022 1) 11))
    ∷ ("2020-2020/0", (0, got (years 2020 2020 0) 11))
    ∷ ("2020-2022/00002", (0, got (years 2020 2022 2) 15))
    ∷ ("2020-2022/32768", (0, refused 4 0))
    ∷ ("1899", (0, refused 4 0))
    ∷ ("18991", (0, refused 4 0))
    ∷ ("0999", (0, refused 4 0))
    ∷ ("1899-", (0, refused 4 0))
    ∷ ("2020-1899", (0, refused 4 0))
    ∷ ("2021-2020", (0, refused 6 0))
    ∷ ("2021-20205", (0, refused 6 0))
    ∷ ("2021-2020/x", (0, refused 6 0))
    ∷ ("Mo;2021-2020", (3, refused 6 3))
    ∷ ("18990:00", (0, none))
    ∷ ("202", (0, none))
    ∷ []

years_right : map (λ e. year_item (bytes e.0) e.1.0) year_texts ≡ map (λ e. e.1.1) year_texts
unfolding year_texts years year_item year_shape year_after until_last stepped year_meaning good_range step_of number digits up_to digit is_digit within clock_after skip many chain chain_in byte one ahead
years_right = refl

-- the same for weeks: 4 before 5 before 7
week_texts : List (String × (ℕ × Read Item))
week_texts =
    ("week 1,2-3/1", (7, got (weeks 2 3 1) 12))
    ∷ ("05", (0, got (weeks 5 5 1) 2))
    ∷ ("1-5/256:00", (0, got (weeks 1 5 1) 3))
    ∷ ("1-53/255", (0, got (weeks 1 53 1) 8))
    ∷ ("1-54/256", (0, refused 4 0))
    ∷ ("541", (0, refused 4 0))
    ∷ ("60-", (0, refused 4 0))
    ∷ ("5-1/999999", (0, refused 4 0))
    ∷ ("5-1/256", (0, refused 5 0))
    ∷ ("1-5/256", (0, refused 5 0))
    ∷ ("1-5/100000", (0, refused 5 0))
    ∷ ("5-1/255", (0, refused 7 0))
    ∷ ("5-1/", (0, refused 7 0))
    ∷ ("week 5-1", (5, refused 7 5))
    ∷ ("week 1", (0, none))
    ∷ []

weeks_right : map (λ e. week_item (bytes e.0) e.1.0) week_texts ≡ map (λ e. e.1.1) week_texts
unfolding week_texts weeks week_item week_shape until_last stepped week_meaning good_range step_of number digits up_to digit is_digit within clock_after skip many chain chain_in byte one ahead
weeks_right = refl

-- months of a year or of each, from first to last
months : ℕ → ℕ → ℕ → Item
months year first last = Months (record { year = year; first = first; last = last; odd_first = false; odd_last = false })

-- a day of a month of a year, or of each
on : ℕ → ℕ → ℕ → Date
on year month day = date_of year (Fixed month day)

-- an offset: a weekday to go to, and days
by : ℤ → ℤ → DateOffset
by wday days = record { wday = wday; days = days }

-- dates from one to another, with their offsets, and with none
moved : Date → DateOffset → Date → DateOffset → Item
moved start before end after =
    Dates (record { start = start; start_offset = before; end = end; end_offset = after; odd_start = no_odd; odd_end = no_odd })

dates : Date → Date → Item
dates start end = moved start no_offset end no_offset

-- the same for month days: an equal day stays and only January moves the year; the end is a day of the calendar; 4 before 9; a sign and a weekday are the offset; the written day
-- is compared; after a weekday date the month and year stay
month_day_texts : List (String × (ℕ × Read Item))
month_day_texts =
    ("2020 Dec 25-05", (0, got (dates (on 2020 12 25) (on 2021 1 5)) 14))
    ∷ ("Dec 25-25", (0, got (dates (on 0 12 25) (on 0 12 25)) 9))
    ∷ ("9999 Dec 31-01", (0, got (dates (on 9999 12 31) (on 10000 1 1)) 14))
    ∷ ("Jan 31-30", (0, got (dates (on 0 1 31) (on 0 3 30)) 9))
    ∷ ("2021 Jan 30-29", (0, got (dates (on 2021 1 30) (on 2021 3 29)) 14))
    ∷ ("2024 Jan 30-29", (0, got (dates (on 2024 1 30) (on 2024 2 29)) 14))
    ∷ ("1900 Jan 30-29", (0, got (dates (on 1900 1 30) (on 1900 3 29)) 14))
    ∷ ("2000 Jan 30-29", (0, got (dates (on 2000 1 30) (on 2000 2 29)) 14))
    ∷ ("Jan 30-29", (0, got (dates (on 0 1 30) (on 0 2 29)) 9))
    ∷ ("Apr 5-31", (0, got (dates (on 0 4 5) (on 0 5 31)) 8))
    ∷ ("Feb 30-30", (0, got (dates (on 0 2 30) (on 0 3 30)) 9))
    ∷ ("2021 Feb 30-1", (0, got (dates (on 2021 2 30) (on 2021 3 1)) 13))
    ∷ ("Feb Mo[1]-30", (0, got (dates (date_of 0 (Weekday 2 1 (signed false 1))) (on 0 2 30)) 12))
    ∷ ("easter-05", (0, refused 9 0))
    ∷ ("Jan;easter-05", (4, refused 9 4))
    ∷ ("easter-32", (0, refused 4 0))
    ∷ ("2020 Jan", (0, got (months 2020 1 1) 8))
    ∷ ("Jan Mo[1,2]", (0, got (months 0 1 1) 3))
    ∷ ("Jan 1-Mo", (0, got (moved (on 0 1 1) (by (signed true 1) (signed false 0)) (on 0 1 1) (by (signed true 1) (signed false 0))) 8))
    ∷ ("2020 Dec Mo[-1]-01", (0, got (dates (date_of 2020 (Weekday 12 1 (signed true 1))) (on 2020 12 1)) 18))
    ∷ ("2020 easter+", (0, got (dates (date_of 2020 Easter) (on 9999 12 31)) 12))
    ∷ ("Jan 5 -3 days-3", (0, got (moved (on 0 1 5) (by (signed false 0) (signed true 3)) (on 0 2 3) no_offset) 15))
    ∷ []

month_days_right : map (λ e. month_day_item (bytes e.0) e.1.0) month_day_texts ≡ map (λ e. e.1.1) month_day_texts
unfolding month_day_texts months on by moved dates month_day_item month_day_after date_item_after month_item_after month_after last_month month_meaning date_meaning last_day bare_end first_with good_nth
    month_from next_month next_year is_day last_of last_of_february has_thirty leap dates_after end_shape until bare_day until_date date day_after day_of weekday_of nth front_nth back_nth
    optional_year offset wday_offset any_days day_offset plus_or_minus spelled named odd warns well_written well_begun all_small name word first_of names all_of letter spelled_so lower number
    digits up_to digit is_digit within clock_after skip many chain chain_in blank blanks byte one ahead
month_days_right = refl
