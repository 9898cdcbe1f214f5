-- Worked examples of documents 01 and 03, as the definitions compute them.
use Prim.Native.Nat.{ℕ}
use mathlib.Core.List.{[], ◌∷◌, map}
use mathlib.Core.Bool.{true, false}
use mathlib.Core.Path.{◌≡◌, refl}
use Rattle.names.specs.Tests.{within}
use Rattle.names.specs.Read.{Read, got, none, refused, one, ahead}
use Rattle.names.specs.Chain.{chain_in, chain, many, skip}
use Rattle.names.specs.Texts.{bytes, byte, all_of, blanks, blank}
use Rattle.names.specs.Numbers.{is_digit, digit, up_to, digits, clock_after, number}
use Rattle.names.specs.declared.Manner.TheVariants.{First, Second}
use Rattle.names.specs.Names.{names, spelled_so, lower, letter, first_of, word, name}
use Rattle.names.specs.Spellings.{all_small, well_begun, well_written, warns, odd, named}
use Rattle.records.specs.Items.{signed}
use lib.IntN.{ℤ}
use Rattle.records.specs.declared.Item.{Item}
use Rattle.records.specs.declared.Item.TheVariants.{Weekdays, Holidays}
use Rattle.days.specs.Offsets.{plus_or_minus, day_offset, any_days}
use Rattle.days.specs.Entries.{back_entry, front_entry, entry, next_entry, set_all, good_entry, marked, marked_all, entries, bits}
use Rattle.days.specs.Weekdays.{last_weekday, bracketed, until_weekday, with_entries, narrow_after, wide_after, weekday_shape, flagged, weekday_meaning, weekday_item}
use Rattle.days.specs.Holidays.{holiday_after, holiday_shape, holiday_meaning, holiday_item}

-- so many days later
days : ℕ → ℤ
days = signed false

-- weekdays from first to last, their flags from the month's start and end, and the place after them
weekdays : ℕ → ℕ → ℤ → ℕ → ℕ → ℕ → Read Item
weekdays first last d starts ends i = got (Weekdays (record { first = first; last = last; days = d; starts = starts; ends = ends; odd_first = false; odd_last = false })) i

-- a descending pair sets none, and if no flag of the ten is set, all ten are; a number out of range is refused though it would set none; the longest shape that is complete is taken
weekdays_right :
    map (λ s. weekday_item First (bytes s) 0)
    ("Fr[3-1]" ∷ "Fr[3-1,2]" ∷ "Fr[6-1]" ∷ "Mo[1] +1 day" ∷ "Mo[6" ∷ "Sa-Mo" ∷ "Mo[-1,2-3]" ∷ "Mo[1] +32768 days"
    ∷ "Mo[5] -32767 days" ∷ "Mo +1 day" ∷ "Mo-Fr[1]" ∷ "Mo[-2-1]" ∷ "Mo[01]" ∷ "Mo[1] +1 Days" ∷ "PH" ∷ [])
    ≡ weekdays 5 5 (days 0) 31 31 7 ∷ weekdays 5 5 (days 0) 2 0 9 ∷ refused 4 0 ∷ weekdays 1 1 (days 1) 1 0 12 ∷ weekdays 1 1 (days 0) 31 31 2 ∷ weekdays 6 1 (days 0) 31 31 5
    ∷ weekdays 1 1 (days 0) 6 1 10 ∷ refused 4 0 ∷ weekdays 1 1 (signed true 32767) 16 0 17 ∷ weekdays 1 1 (days 0) 31 31 2 ∷ weekdays 1 5
    (days 0) 31 31 5 ∷ weekdays 1 1 (days 0) 31 31 2 ∷ weekdays 1 1 (days 0) 31 31 2
    ∷ weekdays 1 1 (days 0) 1 0 5 ∷ none ∷ []
unfolding days weekdays weekday_item weekday_meaning flagged weekday_shape narrow_after with_entries until_weekday bracketed last_weekday entries marked_all marked good_entry set_all
    next_entry entry front_entry back_entry bits any_days day_offset plus_or_minus named odd warns well_written well_begun all_small name word first_of names all_of letter spelled_so lower number digits up_to digit
    is_digit within clock_after skip many chain chain_in blank blanks byte one ahead
weekdays_right = refl

-- the second edition: entries after a range, a day offset after any weekday item; the rest as in the first
wider_right :
    map (λ s. weekday_item Second (bytes s) 0) ("Mo-Fr[1] +1 day" ∷ "Mo-Fr[1]" ∷ "Mo-Fr -2 days" ∷ "Mo +1 day" ∷ "Mo[1] +1 day" ∷ "Mo[1]-Fr" ∷ "Mo[-1-2]" ∷ "Sa-Mo" ∷ "Mo +40000 days" ∷ "Mo" ∷ [])
    ≡ weekdays 1 5 (days 1) 1 0 15 ∷ weekdays 1 5 (days 0) 1 0 8 ∷ weekdays 1 5 (signed true 2) 31 31 13 ∷ weekdays 1 1 (days 1) 31 31 9 ∷ weekdays 1 1 (days 1) 1 0 12 ∷ weekdays 1 1 (days 0) 1 0 5
    ∷ weekdays 1 1 (days 0) 31 31 2 ∷ weekdays 6 1 (days 0) 31 31 5 ∷ refused 4 0 ∷ weekdays 1 1 (days 0) 31 31 2 ∷ []
unfolding days weekdays weekday_item weekday_meaning flagged weekday_shape wide_after bracketed last_weekday entries marked_all marked good_entry set_all next_entry entry front_entry
    back_entry bits any_days day_offset plus_or_minus named odd warns well_written well_begun all_small name word first_of names all_of letter spelled_so lower number digits up_to digit is_digit
    within clock_after skip many chain chain_in blank blanks byte one ahead
wider_right = refl

-- a holiday and the place after it
holidays : ℕ → ℤ → ℕ → Read Item
holidays kind d i = got (Holidays (record { kind = kind; days = d })) i

-- `PH` and `SH` are spelled so; both blanks of a day offset are needed, and its `N` is judged where it is whole
holidays_right :
    map (λ s. holiday_item (bytes s) 0) ("PH +0 days" ∷ "SH -2 days" ∷ "PH +40000 x" ∷ "PH +40000 days" ∷ "ph" ∷ "PH+1 day" ∷ "SH  -1  day" ∷ [])
    ≡ holidays 1 (days 0) 10 ∷ holidays 2 (signed true 2) 10 ∷ holidays 1 (days 0) 2 ∷ refused 4 0 ∷ none ∷ holidays 1 (days 0) 2 ∷ holidays 2 (signed true 1) 11 ∷ []
unfolding days holidays holiday_item holiday_meaning holiday_shape holiday_after any_days day_offset plus_or_minus name word first_of names all_of letter spelled_so lower number digits up_to
    digit is_digit within clock_after skip many chain chain_in blank blanks byte one ahead
holidays_right = refl
