-- Date item: date[offset], then nothing, `+`, or `-` and an end, which is a date or a bare `D`, with [offset] (docs/RULES.md, 2).
use Rattle.names.specs.Read.{Reader, pure, ◌>>=◌, ◌>>◌, ◌or◌}
use Rattle.names.specs.Texts.{sign}
use Rattle.names.specs.Numbers.{short}
use Rattle.days.specs.Offsets.{offset}
use Rattle.dates.specs.Dates.{date}
use Rattle.dates.specs.declared.RawDate.{RawDate}
use Rattle.dates.specs.declared.RawEnd.{RawEnd}
use Rattle.dates.specs.declared.RawEnd.TheVariants.{Nothing, Plus, Until, Bare}
use Rattle.dates.specs.declared.RawDates.{RawDates}

-- after `-`: a date, with [offset]
unfoldable pub until_date : Reader RawEnd
until_date = do
  d ← date
  o ← offset
  pure (Until d o)

-- after `-`: a bare `D`, with [offset]
unfoldable pub bare_day : Reader RawEnd
bare_day = do
  d ← short
  o ← offset
  pure (Bare d o)

-- an end
unfoldable pub until : Reader RawEnd
until = until_date or bare_day

-- `+`, or `-` and an end, or nothing
unfoldable pub end_shape : Reader RawEnd
end_shape = (do sign "+"; pure Plus) or (do sign "-"; until) or pure Nothing

-- the shape of a date item after its date
unfoldable pub dates_after : RawDate → Reader RawDates
dates_after d = do
  o ← offset
  e ← end_shape
  pure (record { date = d; offset = o; end = e })
