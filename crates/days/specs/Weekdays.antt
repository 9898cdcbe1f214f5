-- Weekday: `Wd`, `Wd-Wd`, or `Wd[entries]` with optional day offset. In the second edition `Wd` or `Wd-Wd`, each with optional `[entries]` and optional day offset (docs/RULES.md, 2).
use Rattle.std.specs.Prelude.{ℕ, Bool, false, ◌&&◌, not, eqb, ℤ, Ok, Err, if◌then◌else◌}
use Rattle.names.specs.Read.{Reader, pure, ◌>>=◌, ◌>>◌, ◌or◌, maybe}
use Rattle.names.specs.Texts.{sign}
use Rattle.names.specs.Names.{weekday}
use Rattle.names.specs.Spellings.{odd_from, named}
use Rattle.names.specs.declared.refusals.Reason.TheVariants.{Range}
use Rattle.names.specs.declared.Manner.{Manner}
use Rattle.names.specs.declared.Manner.TheVariants.{First, Second, House}
use Rattle.records.specs.Items.{Meant, item, meant}
use Rattle.records.specs.declared.Item.{Item}
use Rattle.records.specs.declared.Item.TheVariants.{Weekdays}
use Rattle.days.specs.Offsets.{no_days, any_days, good_days}
use Rattle.days.specs.Entries.{no_marks, entries, bits}
use Rattle.days.specs.declared.Marks.{Marks}
use Rattle.days.specs.declared.RawWeekdays.{RawWeekdays}

-- a weekday by its name: which one, and whether the name calls for a warning
abbrev pub Weekday : Type 0
Weekday = ℕ × Bool

-- the same weekday once more: its name stands once
abbrev pub again : Weekday → Weekday
again w = (w.0, false)

-- weekdays as they are read
abbrev pub raw_weekdays : Weekday → Weekday → Marks → ℤ → RawWeekdays
raw_weekdays first last marks days =
    record { first = first.0; last = last.0; marks = marks; days = days; odd_first = first.1; odd_last = last.1 }

-- weekdays without marks and days
abbrev pub plain : Weekday → Weekday → RawWeekdays
plain first last = raw_weekdays first last no_marks no_days

-- `-Wd`
unfoldable pub last_weekday : Reader Weekday
last_weekday = do
  sign "-"
  named weekday

-- `[entries]`
unfoldable pub bracketed : Reader Marks
bracketed = do
  sign "["
  m ← entries
  sign "]"
  pure m

-- after the first: `-Wd`
unfoldable pub until_weekday : Weekday → Reader RawWeekdays
until_weekday first = do
  last ← last_weekday
  pure (plain first last)

-- after the first: `[entries]` with optional day offset
unfoldable pub with_entries : Weekday → Reader RawWeekdays
with_entries first = do
  m ← bracketed
  d ← any_days
  pure (raw_weekdays first (again first) m d)

-- after the first, in the first edition and in a house sheet: one of the two, or nothing
unfoldable pub narrow_after : Weekday → Reader RawWeekdays
narrow_after first = until_weekday first or with_entries first or pure (plain first (again first))

-- after the first, in the second edition: `-Wd` or none, `[entries]` or none, a day offset or none
unfoldable pub wide_after : Weekday → Reader RawWeekdays
wide_after first = do
  last ← maybe last_weekday (again first)
  m ← maybe bracketed no_marks
  d ← any_days
  pure (raw_weekdays first last m d)

-- the shape after the first weekday
abbrev pub weekday_after : Manner → Weekday → Reader RawWeekdays
weekday_after First = narrow_after
weekday_after Second = wide_after
weekday_after House = narrow_after

-- the shape
unfoldable pub weekday_shape : Manner → Reader RawWeekdays
weekday_shape m = do
  first ← named weekday
  weekday_after m first

-- weekdays with these flags
abbrev pub weekdays_of : Weekday → Weekday → ℤ → ℕ → ℕ → Meant
weekdays_of first last days starts ends =
    Ok (Weekdays (record { first = first.0; last = last.0; days = days; starts = starts; ends = ends; odd_first = first.1; odd_last = last.1 }))

-- if no flag of the ten is set, all ten are
unfoldable pub flagged : Weekday → Weekday → ℤ → ℕ → ℕ → Meant
flagged first last days starts ends = if eqb starts 0 && eqb ends 0 then weekdays_of first last days 31 31 else weekdays_of first last days starts ends

-- the meaning
unfoldable pub weekday_meaning : RawWeekdays → Meant
weekday_meaning r =
    if not ((r.marks).good && good_days r.days) then Err Range
    else flagged (r.first, r.odd_first) (r.last, r.odd_last) r.days (bits (r.marks).starts) (bits (r.marks).ends)

-- a weekday item
unfoldable pub weekday_item : Manner → Reader Item
weekday_item m = item (weekday_shape m) weekday_meaning

-- the item that begins at p, after its first weekday
unfoldable pub weekday_item_after : Manner → ℕ → ℕ → Reader Item
weekday_item_after m p first = meant p (do odd ← odd_from weekday p; weekday_after m (first, odd)) weekday_meaning
