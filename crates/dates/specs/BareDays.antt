-- What is proved of a bare end day, in the user's words: it is a day of the calendar with that number, not before the start, and no such day lies between.
use Rattle.std.specs.Prelude.{ℕ, ◌+◌, ◌*◌, ◌≤◌, ◌<◌, Bool, true, false, List, ◌≡◌, Option, Some, None}
use Rattle.names.specs.Read.{got}
use Rattle.calendar.specs.Calendar.{leap, is_day}
use Rattle.records.specs.declared.Day.TheVariants.{Fixed}
use Rattle.records.specs.declared.Date.{Date}
use Rattle.records.specs.declared.DateSpan.{DateSpan}
use Rattle.records.specs.declared.Item.{Item}
use Rattle.records.specs.declared.Item.TheVariants.{Dates}
use Rattle.days.specs.declared.RawOffset.{RawOffset}
use Rattle.dates.specs.Dates.{raw_date, date}
use Rattle.dates.specs.Ends.{dates_after}
use Rattle.dates.specs.BareEnds.{date_of}
use Rattle.dates.specs.Meanings.{year_of}
use Rattle.dates.specs.MonthDays.{month_day_item}
use Rattle.dates.specs.declared.RawEnd.TheVariants.{Bare}

-- year, month and day, as numbers
pub record Ymd : Type 0 where
  pub year : ℕ
  pub month : ℕ
  pub day : ℕ

abbrev pub ymd : ℕ → ℕ → ℕ → Ymd
ymd y m d = record { year = y; month = m; day = d }

-- a comes before b: by the year, within a year by the month, within a month by the day
pub data Before (a b : Ymd) : Type 0 where
  by_year : a.year < b.year → Before a b
  by_month : a.year ≡ b.year → a.month < b.month → Before a b
  by_day : a.year ≡ b.year → a.month ≡ b.month → a.day < b.day → Before a b

-- a day of the calendar with number e that is not before s, which itself may be no day
pub record Fits (s : Ymd) (e : ℕ) (t : Ymd) : Type 0 where
  pub number : t.day ≡ e
  pub is_a_day : is_day t.year t.month t.day ≡ true
  pub not_before : Before t s → ⊥

-- months are counted through the years
abbrev pub months : Ymd → ℕ
months t = t.year * 12 + t.month

-- t is the first such day, and at most one month is passed over between the start's and its own
pub record First (s : Ymd) (e : ℕ) (t : Ymd) : Type 0 where
  pub fits : Fits s e t
  pub none_between : (x : Ymd) → Fits s e x → Before x t → ⊥
  pub near : months t ≤ months s + 2

-- day t, with its year and without
abbrev pub dated : Ymd → Date
dated t = date_of t.year (Fixed t.month t.day)

abbrev pub yearless : Ymd → Date
yearless t = date_of 0 (Fixed t.month t.day)

-- the end of a bare day e after day d of month m: with a year it is the first such day; without, what every leap year gives, its year left out
abbrev pub EndsOn : Option ℕ → ℕ → ℕ → ℕ → Date → Type 0
EndsOn (Some y) m d e end = (t : Ymd) × (end ≡ dated t) × First (ymd y m d) e t
EndsOn None m d e end = (y : ℕ) → leap y ≡ true → (t : Ymd) × (end ≡ yearless t) × First (ymd y m d) e t

-- what stands at place p of the text s: a fixed date, with or without a year, and after it `-` and a bare day e, both with offset or not
pub record BareRead (s : List ℕ) (p : ℕ) (y : Option ℕ) (m d e : ℕ) : Type 0 where
  pub after : ℕ
  pub next : ℕ
  pub offset : RawOffset
  pub offset_end : RawOffset
  pub odd : Bool
  pub start : date s p ≡ got (raw_date y odd (Fixed m d, false)) after
  pub rest : dates_after (raw_date y odd (Fixed m d, false)) s after ≡ got (record { date = raw_date y odd (Fixed m d, false); offset = offset; end = Bare e offset_end }) next

-- the item that such a text is read as
pub record BareItem (y : Option ℕ) (m d e : ℕ) (x : Item) : Type 0 where
  pub span : DateSpan
  pub item : x ≡ Dates span
  pub start : span.start ≡ date_of (year_of y) (Fixed m d)
  pub end : EndsOn y m d e span.end

-- for every text and place: the item that is read there, where it is not refused, ends on that day
abbrev pub BareDays : Type 0
BareDays = (s : List ℕ) (p : ℕ) (y : Option ℕ) (m d e : ℕ) → BareRead s p y m d e → (x : Item) (q : ℕ) → month_day_item s p ≡ got x q → BareItem y m d e x
