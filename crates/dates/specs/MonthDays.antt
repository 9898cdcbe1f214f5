-- An item of a month-day list: a date item, or a month span: [`YYYY` blank] `Mon`[`-Mon`] (docs/RULES.md, 2).
use Rattle.std.specs.Prelude.{ℕ, Bool, false, eqb, Option}
use Rattle.names.specs.Read.{Reader, branch, pure, here, only, ◌>>=◌, ◌>>◌, maybe}
use Rattle.names.specs.Texts.{sign}
use Rattle.names.specs.Names.{Word, month}
use Rattle.names.specs.Spellings.{named, spelled}
use Rattle.records.specs.Items.{meant}
use Rattle.records.specs.declared.Item.{Item}
use Rattle.dates.specs.Dates.{Spelt, optional_year, day_after, raw_date}
use Rattle.dates.specs.Ends.{dates_after}
use Rattle.dates.specs.Meanings.{date_meaning, month_meaning}
use Rattle.dates.specs.declared.RawMonths.{RawMonths}

-- after the first month: `-Mon`, and whether the name calls for a warning; or nothing, where the first name stands alone
unfoldable pub last_month : ℕ → Reader (ℕ × Bool)
last_month first = maybe (do sign "-"; named month) (first, false)

-- months as they are read, after the first
unfoldable pub month_after : Option ℕ → ℕ × Bool → Reader RawMonths
month_after y first = do
  last ← last_month first.0
  pure (record { year = y; first = first.0; last = last.0; odd_first = first.1; odd_last = last.1 })

-- the month span that begins at p, after its first name
unfoldable pub month_item_after : ℕ → Option ℕ → Word × Bool → Reader Item
month_item_after p y w = do
  only (eqb w.0.0 month)
  meant p (month_after y (w.0.1, w.1)) month_meaning

-- the date item that begins at p, after its date
unfoldable pub date_item_after : ℕ → Option ℕ → Bool → Spelt → Reader Item
date_item_after p y odd d = meant p (dates_after (raw_date y odd d)) date_meaning

-- the item that begins at p, after its year and its first name: a date is longer than the month span that it begins with
unfoldable pub month_day_after : ℕ → Option ℕ → Word × Bool → Reader Item
month_day_after p y w = branch (day_after w.0) (date_item_after p y w.1) (month_item_after p y w)

-- an item of a month-day list
unfoldable pub month_day_item : Reader Item
month_day_item = do
  p ← here
  y ← optional_year
  w ← spelled
  month_day_after p y w
