-- Offset: `+Wd` or `-Wd`, or a day offset, or both in that order. Day offset: blank, sign, `N`, blank, `day` or `days` (docs/RULES.md, 2).
use Rattle.std.specs.Prelude.{ℕ, Bool, true, false, ℤ, if◌then◌else◌}
use Rattle.std.specs.Int.Signed.{lt_z}
use Rattle.names.specs.Read.{Reader, pure, ◌>>=◌, ◌>>◌, ◌or◌, maybe}
use Rattle.names.specs.Texts.{sign, blank}
use Rattle.names.specs.Numbers.{count}
use Rattle.names.specs.Names.{name, weekday, day}
use Rattle.names.specs.Spellings.{named}
use Rattle.records.specs.Items.{signed, good_count}
use Rattle.days.specs.declared.RawOffset.{RawOffset}

-- a plus or a minus: whether it is a minus
unfoldable pub plus_or_minus : Reader Bool
plus_or_minus = (do sign "+"; pure false) or (do sign "-"; pure true)

-- what is read where N is out of range: less than any number of days in range
abbrev pub out_of_range : ℤ
out_of_range = signed true 32768

-- days that are added, or taken off; a shape is read whatever its number, and judged after that
abbrev pub days_of : Bool → ℕ → ℤ
days_of negative n = if good_count n then signed negative n else out_of_range

-- no days
abbrev pub no_days : ℤ
no_days = signed false 0

-- day offset: blank, sign, `N`, blank, `day` or `days`
unfoldable pub day_offset : Reader ℤ
day_offset = do
  blank
  negative ← plus_or_minus
  n ← count
  blank
  name day
  pure (days_of negative n)

-- a day offset, or none
unfoldable pub any_days : Reader ℤ
any_days = maybe day_offset no_days

-- `+Wd` or `-Wd`, and whether the name calls for a warning
unfoldable pub wday_offset : Reader (ℤ × Bool)
wday_offset = do
  negative ← plus_or_minus
  w ← named weekday
  pure (signed negative w.0, w.1)

-- an offset, or none
unfoldable pub offset : Reader RawOffset
offset = do
  w ← maybe wday_offset (signed false 0, false)
  d ← any_days
  pure (record { wday = w.0; days = d; odd = w.1 })

-- N from 0 to 32,767, either way
abbrev pub good_days : ℤ → Bool
good_days d = lt_z out_of_range d
