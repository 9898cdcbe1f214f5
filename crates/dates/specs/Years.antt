-- Year: `YYYY`, `YYYY+`, `YYYY-YYYY`, `YYYY-YYYY/N` (docs/RULES.md, 2).
use Rattle.std.specs.Prelude.{ℕ, Bool, not, ltb, Ok, Err, if◌then◌else◌}
use Rattle.names.specs.Tests.{within}
use Rattle.names.specs.Read.{Reader, pure, ◌>>=◌, ◌>>◌, ◌or◌}
use Rattle.names.specs.Texts.{sign}
use Rattle.names.specs.Numbers.{year}
use Rattle.names.specs.declared.refusals.Reason.TheVariants.{Range, YearsInverted}
use Rattle.records.specs.Items.{Meant, item, meant}
use Rattle.records.specs.declared.Item.{Item}
use Rattle.records.specs.declared.Item.TheVariants.{Years}
use Rattle.dates.specs.Ranges.{raw_range, until_last, good_range, step_of}
use Rattle.dates.specs.declared.RawRange.{RawRange}

-- the shape after the first year: `YYYY+` ends in 9999
unfoldable pub year_after : ℕ → Reader RawRange
year_after first = (do sign "+"; pure (raw_range first 9999 1)) or until_last year first or pure (raw_range first first 1)

-- the shape
unfoldable pub year_shape : Reader RawRange
year_shape = do
  first ← year
  year_after first

-- a year from 1900 to 9999
abbrev pub good_year : ℕ → Bool
good_year = within 1900 9999

-- the meaning: years are 1900 to 9999; first above last is refused, a step above last minus first becomes 1
unfoldable pub year_meaning : RawRange → Meant
year_meaning r =
    if not (good_range 1900 9999 r) then Err Range
    else if ltb r.last r.first then Err YearsInverted
    else Ok (Years (record { first = r.first; last = r.last; step = step_of r.first r.last r.step }))

-- an item of a year list
unfoldable pub year_item : Reader Item
year_item = item year_shape year_meaning

-- the item that begins at p, after its first year
unfoldable pub year_item_after : ℕ → ℕ → Reader Item
year_item_after p first = meant p (year_after first) year_meaning
