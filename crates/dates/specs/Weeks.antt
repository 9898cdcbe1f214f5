-- Weeks: after `week` and a blank, `W`, `W-W`, `W-W/N` (docs/RULES.md, 2).
use Rattle.std.specs.Prelude.{not, ltb, Ok, Err, if◌then◌else◌}
use Rattle.names.specs.Read.{Reader, pure, ◌>>=◌, ◌or◌}
use Rattle.names.specs.Numbers.{short}
use Rattle.names.specs.declared.refusals.Reason.TheVariants.{Range, WeekStep, WeeksInverted}
use Rattle.records.specs.Items.{Meant, item}
use Rattle.records.specs.declared.Item.{Item}
use Rattle.records.specs.declared.Item.TheVariants.{Weeks}
use Rattle.dates.specs.Ranges.{raw_range, until_last, good_range, step_of}
use Rattle.dates.specs.declared.RawRange.{RawRange}

-- the shape
unfoldable pub week_shape : Reader RawRange
week_shape = do
  first ← short
  until_last short first or pure (raw_range first first 1)

-- the meaning: weeks are 1 to 53; a step above 255 is refused, then first above last; a step above last minus first becomes 1
unfoldable pub week_meaning : RawRange → Meant
week_meaning r =
    if not (good_range 1 53 r) then Err Range
    else if ltb 255 r.step then Err WeekStep
    else if ltb r.last r.first then Err WeeksInverted
    else Ok (Weeks (record { first = r.first; last = r.last; step = step_of r.first r.last r.step }))

-- an item of a week list
unfoldable pub week_item : Reader Item
week_item = item week_shape week_meaning
