-- A rule: the worst of its kinds, each of which is its best item.
use Rattle.std.specs.Prelude.{ℕ, List, [], ◌∷◌, eqb, if◌then◌else◌, Option, Some, None}
use Rattle.records.specs.declared.Item.{Item}
use Rattle.records.specs.declared.Item.TheVariants.{Years, Months, Dates, Weeks, Weekdays, Holidays, Times}
use Rattle.almanac.specs.declared.OnDay.{OnDay}
use Rattle.touched.specs.Touches.{best, worst}
use Rattle.touched.specs.Selectors.{touch}
use Rattle.touched.specs.declared.SelectorKind.{SelectorKind}
use Rattle.touched.specs.declared.SelectorKind.TheVariants.{Year, MonthDay, Week, Weekday}
use Rattle.touched.specs.declared.Touch.{Touch}
use Rattle.touched.specs.declared.Touch.TheVariants.{No, Yes}

-- the four kinds of day selectors: 1 years, 2 months and dates, 3 weeks, 4 weekdays and holidays; 0: none
abbrev pub kind_of : Item → ℕ
kind_of (Years r) = 1
kind_of (Months r) = 2
kind_of (Dates r) = 2
kind_of (Weeks r) = 3
kind_of (Weekdays r) = 4
kind_of (Holidays r) = 4
kind_of (Times r) = 0

-- the number of a kind as the code has it
abbrev pub number_of : Option SelectorKind → ℕ
number_of None = 0
number_of (Some Year) = 1
number_of (Some MonthDay) = 2
number_of (Some Week) = 3
number_of (Some Weekday) = 4

-- the items of a kind
unfoldable pub of_kind : ℕ → List Item → List Item
of_kind k [] = []
of_kind k (a ∷ l) = if eqb (kind_of a) k then a ∷ of_kind k l else of_kind k l

-- the best of items
unfoldable pub best_by : (Item → Touch) → List Item → Touch
best_by f [] = No
best_by f (a ∷ l) = best (f a) (best_by f l)

-- a kind: its best item, yes where it has none
abbrev pub kind_by : (Item → Touch) → List Item → Touch
kind_by f [] = Yes
kind_by f (a ∷ l) = best_by f (a ∷ l)

-- a rule's items: the worst of the kinds
unfoldable pub rule_by : (Item → Touch) → List Item → Touch
rule_by f l = worst (kind_by f (of_kind 1 l)) (worst (kind_by f (of_kind 2 l)) (worst (kind_by f (of_kind 3 l)) (kind_by f (of_kind 4 l))))

-- whether a rule's items touch a day
abbrev pub rule_touch : OnDay → List Item → Touch
rule_touch d = rule_by (touch d)
