-- What a record tells: a head or an item, if it fits. Which names call for a warning is not told.
use Rattle.std.specs.Prelude.{ℕ, ◌+◌, List, Bool, true, false, ◌&&◌, ℤ, pos, negsuc, nat_abs, Option, Some, None, if◌then◌else◌}
use Rattle.std.specs.Int.Signed.{non_neg}
use Rattle.records.specs.declared.Day.{Day}
use Rattle.records.specs.declared.Day.TheVariants.{Fixed, Weekday, Easter}
use Rattle.records.specs.declared.Date.{Date}
use Rattle.records.specs.declared.DateOffset.{DateOffset}
use Rattle.records.specs.declared.Odd.{Odd}
use Rattle.records.specs.declared.Time.{Time}
use Rattle.records.specs.declared.Time.TheVariants as time
use Rattle.records.specs.declared.Head.{Head}
use Rattle.records.specs.declared.Item.{Item}
use Rattle.records.specs.declared.Item.TheVariants.{Years, Months, Dates, Weeks, Weekdays, Holidays, Times}
use Rattle.records.specs.Ranges.{from, about, exactly}
use Rattle.records.specs.Fits.{word_at, is_kind, head_fits, item_fits}
use Rattle.records.specs.declared.Record.{Record}
use Rattle.records.specs.declared.Record.TheVariants as tells

-- a word as a number up to top, or as one with a sign; another word, which no range has, is taken as 0
unfoldable pub within : ℕ → ℤ → ℕ
within top x = if from 0 top x then nat_abs x else 0

abbrev pub byte : ℤ → ℕ
byte = within 255

abbrev pub half : ℤ → ℕ
half = within 65535

unfoldable pub signed_half : ℤ → ℤ
signed_half x = if about 32767 x then x else pos 0

-- a repeat, or none where the word is below 0
unfoldable pub repeat : ℤ → Option ℕ
repeat x = if non_neg x then Some (half x) else None

-- the same of word k
abbrev pub up_to : ℕ → List ℤ → ℕ → ℕ
up_to top w k = within top (word_at w k)

abbrev pub signed_at : List ℤ → ℕ → ℤ
signed_at w k = signed_half (word_at w k)

abbrev pub byte_at : List ℤ → ℕ → ℕ
byte_at = up_to 255

abbrev pub half_at : List ℤ → ℕ → ℕ
half_at = up_to 65535

-- word k as a number from 0 up; one below 0 is taken as 0
abbrev pub number_of : ℤ → ℕ
number_of (pos n) = n
number_of (negsuc n) = 0

abbrev pub number_at : List ℤ → ℕ → ℕ
number_at w k = number_of (word_at w k)

-- a date in the seven words from k on
unfoldable pub day_at : List ℤ → ℕ → Day
day_at w k =
    if exactly 1 (word_at w k) then Fixed (byte_at w (k + 2)) (byte_at w (k + 3))
    else if exactly 2 (word_at w k) then Weekday (byte_at w (k + 2)) (byte_at w (k + 3)) (signed_at w (k + 4))
    else Easter

unfoldable pub date_at : List ℤ → ℕ → Date
date_at w k = record { year = half_at w (k + 1); day = day_at w k }

unfoldable pub offset_at : List ℤ → ℕ → DateOffset
offset_at w k = record { wday = signed_at w (k + 5); days = signed_at w (k + 6) }

-- a time in the two words from k on
unfoldable pub time_at : List ℤ → ℕ → Time
time_at w k =
    if exactly 0 (word_at w k) then time.Fixed (half_at w (k + 1))
    else if exactly 1 (word_at w k) then time.Dawn (signed_at w (k + 1))
    else if exactly 2 (word_at w k) then time.Sunrise (signed_at w (k + 1))
    else if exactly 3 (word_at w k) then time.Sunset (signed_at w (k + 1))
    else time.Dusk (signed_at w (k + 1))

abbrev pub repeat_at : List ℤ → ℕ → Option ℕ
repeat_at w k = repeat (word_at w k)

abbrev pub no_odd : Odd
no_odd = record { name = false; weekday = false; offset = false }

-- an item of each kind
abbrev pub years_in : List ℤ → Item
years_in w = Years (record { first = half_at w 1; last = half_at w 2; step = half_at w 3 })

abbrev pub months_in : List ℤ → Item
months_in w = Months (record { year = half_at w 1; first = byte_at w 2; last = byte_at w 3; odd_first = false; odd_last = false })

abbrev pub dates_in : List ℤ → Item
dates_in w =
    Dates (record { start = date_at w 1; start_offset = offset_at w 1; end = date_at w 8; end_offset = offset_at w 8; odd_start = no_odd; odd_end = no_odd })

abbrev pub weeks_in : List ℤ → Item
weeks_in w = Weeks (record { first = half_at w 1; last = half_at w 2; step = half_at w 3 })

abbrev pub weekdays_in : List ℤ → Item
weekdays_in w =
    Weekdays (record { first = byte_at w 1; last = byte_at w 2; odd_first = false; odd_last = false; days = signed_at w 3; starts = byte_at w 4; ends = byte_at w 5 })

abbrev pub holidays_in : List ℤ → Item
holidays_in w = Holidays (record { kind = byte_at w 1; days = signed_at w 2 })

abbrev pub times_in : List ℤ → Item
times_in w =
    Times (record {
      start = time_at w 1;
      end = time_at w 3;
      repeats = repeat_at w 5;
      open_end = exactly 1 (word_at w 6);
      point = exactly 1 (word_at w 7);
      odd_start = false;
      odd_end = false;
    })

-- the item that a record's words are, by its kind
unfoldable pub candidate : List ℤ → Item
candidate w =
    if is_kind 2 w then years_in w
    else if is_kind 3 w then months_in w
    else if is_kind 4 w then dates_in w
    else if is_kind 5 w then weeks_in w
    else if is_kind 6 w then weekdays_in w
    else if is_kind 7 w then holidays_in w
    else times_in w

-- an item if a test is passed
abbrev pub given : Bool → Item → Option Item
given true a = Some a
given false a = None

-- the item of a record that fits, or nothing
unfoldable pub item_in : List ℤ → Option Item
item_in w = given (item_fits w) (candidate w)

-- an item of which no name calls for a warning
abbrev pub quiet : Item → Item
quiet (Years r) = Years r
quiet (Months r) = Months (record { year = r.year; first = r.first; last = r.last; odd_first = false; odd_last = false })
quiet (Dates r) =
    Dates (record { start = r.start; start_offset = r.start_offset; end = r.end; end_offset = r.end_offset; odd_start = no_odd; odd_end = no_odd })
quiet (Weeks r) = Weeks r
quiet (Weekdays r) =
    Weekdays (record { first = r.first; last = r.last; odd_first = false; odd_last = false; days = r.days; starts = r.starts; ends = r.ends })
quiet (Holidays r) = Holidays r
quiet (Times r) =
    Times (record { start = r.start; end = r.end; repeats = r.repeats; open_end = r.open_end; point = r.point; odd_start = false; odd_end = false })

-- ---- a record

-- the head that a record's words are
unfoldable pub head_at : List ℤ → Head
head_at w =
    record {
      place = number_at w 15;
      separator = byte_at w 1;
      state = byte_at w 2;
      comment = record { start = number_at w 3; length = number_at w 4 };
      items = number_at w 5;
      warnings = 0;
    }

-- an item at a place, or nothing
abbrev pub placed : Option Item → ℕ → Option Record
placed (Some a) place = Some (tells.Item a place)
placed None place = None

-- a head, an item and its place, or nothing
unfoldable pub record_in : List ℤ → Option Record
record_in w = if is_kind 1 w && head_fits w then Some (tells.Head (head_at w)) else placed (item_in w) (number_at w 15)

-- a head of which no name calls for a warning
abbrev pub quiet_head : Head → Head
quiet_head h = record { place = h.place; separator = h.separator; state = h.state; comment = h.comment; items = h.items; warnings = 0 }
