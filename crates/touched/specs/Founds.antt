-- What is known of a rule on a day, item by item.
use Rattle.std.specs.Prelude.{ℕ, List, [], ◌∷◌, ◌++◌, ◌≡◌, eqb, if◌then◌else◌, Option, Some, None}
use Rattle.records.specs.declared.Item.{Item}
use Rattle.almanac.specs.declared.OnDay.{OnDay}
use Rattle.touched.specs.Touches.{best, worst}
use Rattle.touched.specs.Selectors.{touch}
use Rattle.touched.specs.Kinds.{kind_of, rule_touch}
use Rattle.touched.specs.declared.Touch.{Touch}
use Rattle.touched.specs.declared.Touch.TheVariants.{Yes}
use Rattle.touched.specs.declared.Found.{Found}

-- a kind with an item more
abbrev pub keep : Option Touch → Touch → Option Touch
keep None t = Some t
keep (Some b) t = Some (best b t)

-- what a kind comes to: yes where it has no item
abbrev pub come : Option Touch → Touch
come None = Yes
come (Some b) = b

-- before a rule's items
abbrev pub begun : Found
begun = record { years = None; month_days = None; weeks = None; weekdays = None }

-- kind k with an item more, if the item is of that kind
abbrev pub keep_of : OnDay → Item → ℕ → Option Touch → Option Touch
keep_of d a k x = if eqb (kind_of a) k then keep x (touch d a) else x

-- with an item more
unfoldable pub with_item : OnDay → Found → Item → Found
with_item d h a = record { years = keep_of d a 1 h.years; month_days = keep_of d a 2 h.month_days; weeks = keep_of d a 3 h.weeks; weekdays = keep_of d a 4 h.weekdays }

-- with these items
unfoldable pub with_items : OnDay → Found → List Item → Found
with_items d h [] = h
with_items d h (a ∷ l) = with_items d (with_item d h a) l

-- what the rule comes to
abbrev pub ended : Found → Touch
ended h = worst (come h.years) (worst (come h.month_days) (worst (come h.weeks) (come h.weekdays)))

-- item by item, it is what the rule is
abbrev pub ItemByItem : Type 0
ItemByItem = (d : OnDay) (l : List Item) → ended (with_items d begun l) ≡ rule_touch d l

-- one item more at the end is one step more, as a loop takes it
abbrev pub OneMore : Type 0
OneMore = (d : OnDay) (h : Found) (l : List Item) (a : Item) → with_items d h (l ++ (a ∷ [])) ≡ with_item d (with_items d h l) a
