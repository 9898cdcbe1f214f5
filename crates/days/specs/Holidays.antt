-- Holiday: `PH` or `SH` with optional day offset (docs/RULES.md, 2).
use Rattle.std.specs.Prelude.{ℕ, not, Ok, Err, if◌then◌else◌}
use Rattle.names.specs.Read.{Reader, pure, ◌>>=◌}
use Rattle.names.specs.Names.{name, holiday}
use Rattle.names.specs.declared.refusals.Reason.TheVariants.{Range}
use Rattle.records.specs.Items.{Meant, item, meant}
use Rattle.records.specs.declared.Holiday.{Holiday}
use Rattle.records.specs.declared.Item.{Item}
use Rattle.records.specs.declared.Item.TheVariants.{Holidays}
use Rattle.days.specs.Offsets.{any_days, good_days}

-- the shape after the name
unfoldable pub holiday_after : ℕ → Reader Holiday
holiday_after kind = do
  d ← any_days
  pure (record { kind = kind; days = d })

-- the shape
unfoldable pub holiday_shape : Reader Holiday
holiday_shape = do
  kind ← name holiday
  holiday_after kind

-- the meaning
unfoldable pub holiday_meaning : Holiday → Meant
holiday_meaning h = if not (good_days h.days) then Err Range else Ok (Holidays h)

-- a holiday item
unfoldable pub holiday_item : Reader Item
holiday_item = item holiday_shape holiday_meaning

-- the item that begins at p, after its name
unfoldable pub holiday_item_after : ℕ → ℕ → Reader Item
holiday_item_after p kind = meant p (holiday_after kind) holiday_meaning
