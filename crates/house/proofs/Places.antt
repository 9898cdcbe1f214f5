-- The first break has one of the house's two numbers, at the place of a rule or of an item.
use Rattle.std.specs.Prelude.{if◌then◌else◌}
use Prim.Native.Nat.{ℕ}
use mathlib.Core.Bool.{Bool, true, false}
use mathlib.Core.List.{List, [], ◌∷◌}
use lib.Dec.{eqb}
use Rattle.std.specs.Prelude.{Some, None}
use Rattle.names.specs.Refusals.{house_form, house_order, number}
use Rattle.names.specs.declared.refusals.Reason.TheVariants.{HouseForm, HouseOrder}
use Rattle.names.specs.declared.Manner.{Manner}
use Rattle.names.specs.declared.Manner.TheVariants.{First, Second, House}
use Rattle.records.specs.declared.Item.{Item}
use Rattle.records.specs.declared.Item.TheVariants.{Years, Months, Dates, Weeks, Weekdays, Holidays, Times}
use Rattle.records.specs.Words.{Placed}
use Rattle.rules.specs.Rules.{Rule}
use Rattle.house.specs.Spans.{Break, at, allowed, in_order, span_break_as}
use Rattle.house.specs.Breaks.{first_of, item_break, end_with, items_break, separator_break, rule_break, rules_break, judged_by}
use Rattle.house.specs.Profile.{Each}

-- the number and the place of a break are so
abbrev pub Broken : (ℕ → ℕ → Type 0) → Break → Type 0
Broken P None = Unit {0}
Broken P (Some r) = P (number r.reason) r.place

module _ (P : ℕ → ℕ → Type 0) where
  -- what is so of an item's two breaks, and of a rule's
  abbrev pub OfItem : Placed → Type 0
  OfItem a = P house_form a.1 × P house_order a.1

  abbrev pub OfRule : Rule → Type 0
  OfRule r = P house_form r.0.place × Each OfItem r.1

  first_broken : (a b : Break) → Broken P a → Broken P b → Broken P (first_of a b)
  first_broken None b h k = k
  first_broken (Some r) b h k = h

  item_broken : (end : ℕ) (a : Item) (p : ℕ) → OfItem (a, p) → Broken P (item_break end (a, p))
  unfolding span_break_as
  item_broken end (Years r) p h = tt
  item_broken end (Months r) p h = tt
  item_broken end (Dates r) p h = tt
  item_broken end (Weeks r) p h = tt
  item_broken end (Weekdays r) p h = tt
  item_broken end (Holidays r) p h = tt
  item_broken end (Times x) p h = go (allowed x) (in_order end x)
    where
      go : (a b : Bool) → Broken P (if a then (if b then None else at HouseOrder p) else at HouseForm p)
      go true true = tt
      go true false = h.1
      go false b = h.0

  items_broken : (l : List Placed) (end : ℕ) → Each OfItem l → Broken P (items_break end l)
  unfolding items_break
  items_broken [] end h = tt
  items_broken (a ∷ l) end h = first_broken (item_break end a) (items_break (end_with end a.0) l) (item_broken end a.0 a.1 h.0) (items_broken l (end_with end a.0) h.1)

  pub rule_broken : (r : Rule) → OfRule r → Broken P (rule_break r)
  unfolding separator_break
  rule_broken r h = first_broken (separator_break r.0.separator r.0.place) (items_break 0 r.1) (go (eqb r.0.separator 0)) (items_broken r.1 0 h.1)
    where
      go : (a : Bool) → Broken P (if a then None else at HouseForm r.0.place)
      go true = tt
      go false = h.0

  pub more_broken : (r : Rule) (l : List Rule) → OfRule r → Broken P (rules_break l) → Broken P (rules_break (r ∷ l))
  unfolding rules_break
  more_broken r l h k = first_broken (rule_break r) (rules_break l) (rule_broken r h) k

  pub none_broken : Broken P (rules_break [])
  unfolding rules_break
  none_broken = tt

  pub judged_broken : (m : Manner) (b : Break) → Broken P b → Broken P (judged_by m b)
  judged_broken First b h = tt
  judged_broken Second b h = tt
  judged_broken House b h = h
