-- Date: [`YYYY` blank] then `easter`, `Mon` blank `D`, or `Mon` blank `Wd[n]` or `Wd[-n]` (docs/RULES.md, 2).
use Rattle.std.specs.Prelude.{ℕ, Bool, true, false, eqb, ℤ, Option, Some, None, if◌then◌else◌}
use Rattle.names.specs.Read.{Reader, nothing, pure, ◌>>=◌, ◌>>◌, ◌or◌, maybe}
use Rattle.names.specs.Texts.{sign, blank}
use Rattle.names.specs.Numbers.{year, short, ordinal}
use Rattle.names.specs.Names.{Word, weekday, month, easter}
use Rattle.names.specs.Spellings.{named, spelled}
use Rattle.records.specs.Items.{signed}
use Rattle.records.specs.declared.Day.{Day}
use Rattle.records.specs.declared.Day.TheVariants.{Fixed, Weekday, Easter}
use Rattle.dates.specs.declared.RawDate.{RawDate}

-- [`YYYY` blank]
unfoldable pub optional_year : Reader (Option ℕ)
optional_year = maybe (do y ← year; blank; pure (Some y)) None

-- `-n`
unfoldable pub back_nth : Reader ℤ
back_nth = do
  sign "-"
  n ← ordinal
  pure (signed true n)

-- `n`
unfoldable pub front_nth : Reader ℤ
front_nth = do
  n ← ordinal
  pure (signed false n)

-- `n` or `-n`
unfoldable pub nth : Reader ℤ
nth = back_nth or front_nth

-- a date without its year, and whether its weekday's name calls for a warning
abbrev pub Spelt : Type 0
Spelt = Day × Bool

-- after a month and a blank: `Wd[n]` or `Wd[-n]`
unfoldable pub weekday_of : ℕ → Reader Spelt
weekday_of m = do
  w ← named weekday
  sign "["
  n ← nth
  sign "]"
  pure (Weekday m w.0 n, w.1)

-- after a month: a blank, and `D` or a weekday
unfoldable pub day_of : ℕ → Reader Spelt
day_of m = do
  blank
  (do d ← short; pure (Fixed m d, false)) or weekday_of m

-- after a name: nothing more after `easter`, a day after a month
unfoldable pub day_after : Word → Reader Spelt
day_after w =
    if eqb w.0 easter then pure (Easter, false)
    else if eqb w.0 month then day_of w.1
    else nothing

-- a date as it is read, and whether its month or `easter` calls for a warning
abbrev pub raw_date : Option ℕ → Bool → Spelt → RawDate
raw_date y odd d = record { year = y; day = d.0; odd_name = odd; odd_weekday = d.1 }

-- a date
unfoldable pub date : Reader RawDate
date = do
  y ← optional_year
  w ← spelled
  d ← day_after w.0
  pure (raw_date y w.1 d)
