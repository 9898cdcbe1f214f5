-- The kinds of items in a rule, and an item of one of several kinds (docs/RULES.md, 2).
use Rattle.std.specs.Prelude.{List, [], ◌∷◌}
use Rattle.names.specs.Read.{Reader, branch, nothing, pure, here, ◌>>=◌, ◌>>◌}
use Rattle.names.specs.Texts.{blank}
use Rattle.names.specs.Names.{name, week}
use Rattle.names.specs.declared.Manner.{Manner}
use Rattle.records.specs.Words.{Placed}
use Rattle.records.specs.declared.Item.{Item}
use Rattle.times.specs.Spans.{time_item}
use Rattle.days.specs.Weekdays.{weekday_item}
use Rattle.days.specs.Holidays.{holiday_item}
use Rattle.dates.specs.Years.{year_item}
use Rattle.dates.specs.Weeks.{week_item}
use Rattle.dates.specs.MonthDays.{month_day_item}
use Rattle.items.specs.Musts.{must}
use Rattle.items.specs.declared.Kind.{Kind}
use Rattle.items.specs.declared.Kind.TheVariants.{Years, MonthDays, Weeks, WeekNumbers, Weekdays, LastWeekdays, Holidays, LastHolidays, Times}

-- after a blank
abbrev pub after_blank : {A : Type 0} → Reader A → Reader A
after_blank m = do
  blank
  m

-- the place of an item is where its reader begins
abbrev pub at : Reader Item → Reader Placed
at m = do
  p ← here
  a ← m
  pure (a, p)

-- weeks: `week`, a blank, and the first of their numbers, where the item begins
unfoldable pub weeks : Reader Placed
weeks = do
  name week
  must (after_blank (at week_item))

-- an item of a kind. Weekdays after holidays and holidays after weekdays are kinds of their own, since the list does not go back
unfoldable pub item_of : Manner → Kind → Reader Placed
item_of m Years = at year_item
item_of m MonthDays = at month_day_item
item_of m Weeks = weeks
item_of m WeekNumbers = at week_item
item_of m Weekdays = at (weekday_item m)
item_of m LastWeekdays = at (weekday_item m)
item_of m Holidays = at holiday_item
item_of m LastHolidays = at holiday_item
item_of m Times = at (time_item m)

-- an item, and its kind: of these kinds, the first of which an item stands here
unfoldable pub item_in : Manner → List Kind → Reader (Placed × Kind)
item_in m [] = nothing
item_in m (k ∷ ks) = branch (item_of m k) (λ a. pure (a, k)) (item_in m ks)
