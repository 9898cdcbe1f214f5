use mathlib.Core.Path.{◌≡◌}
use mathlib.Core.Bool.{true}
use Rattle.sheet_texts.specs.Days as days
use Rattle.item_texts.proofs.Laws.{holiday_named}
use Rattle.item_texts.proofs.texts.item.Goals as goal

pub holidays-requires : goal.holidays-requires
holidays-requires c =
    let good : days.good_holiday c.in-Holidays.r ≡ true = rw c.in-Holidays.is at c.requires in
    let range = holiday_named c.in-Holidays.r good in
    record { le_kind = range.0; kind_bound = range.1 }
