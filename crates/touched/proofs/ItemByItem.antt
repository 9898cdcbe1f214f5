-- Item by item, the code comes to what the rule is.
use Rattle.std.specs.Prelude.{if◌then◌else◌}
use Prim.Native.Nat.{ℕ}
use mathlib.Core.Bool.{Bool, true, false}
use mathlib.Core.List.{List, [], ◌∷◌}
use mathlib.Core.Path.{◌≡◌, refl, sym, ap, ◌∙◌}
use lib.Dec.{eqb}
use Rattle.records.specs.declared.Item.{Item}
use Rattle.almanac.specs.declared.OnDay.{OnDay}
use Rattle.touched.specs.Touches.{best}
use Rattle.touched.specs.Selectors.{touch}
use Rattle.touched.specs.Kinds.{kind_of, of_kind, best_by, kind_by, rule_by}
use Rattle.touched.specs.Founds.{keep, come, begun, keep_of, with_item, with_items, ItemByItem, OneMore}
use Rattle.touched.specs.declared.Touch.{Touch}
use Rattle.touched.specs.declared.Touch.TheVariants.{No, Undecided, Yes}
use Rattle.std.specs.Prelude.{Option, Some, None}
use Rattle.touched.specs.declared.Found.{Found}
use Rattle.touched.proofs.Laws.{best_no}

-- of three, in any grouping
best_assoc : (a b c : Touch) → best (best a b) c ≡ best a (best b c)
best_assoc No b c = refl
best_assoc Undecided No c = refl
best_assoc Undecided Undecided No = refl
best_assoc Undecided Undecided Undecided = refl
best_assoc Undecided Undecided Yes = refl
best_assoc Undecided Yes c = refl
best_assoc Yes b c = refl

module _ (d : OnDay) where
  -- one kind alone
  abbrev keeps : ℕ → Option Touch → List Item → Option Touch
  keeps k x [] = x
  keeps k x (a ∷ l) = keeps k (keep_of d a k x) l

  -- after an item of the kind, the best of it and of those that follow
  after : (k : ℕ) (b : Touch) (l : List Item) → keeps k (Some b) l ≡ Some (best b (best_by (touch d) (of_kind k l)))
  unfolding of_kind best_by
  after k b [] = ap Some (sym (best_no b))
  after k b (a ∷ l) = go (λ x. after k x l) (eqb (kind_of a) k)
    where
      go : ((x : Touch) → keeps k (Some x) l ≡ Some (best x (best_by (touch d) (of_kind k l)))) → (t : Bool) → keeps k (if t then keep (Some b) (touch d a) else Some b) l ≡ Some (best b (best_by (touch d) (if t then a ∷ of_kind k l else of_kind k l)))
      go r true = r (best b (touch d a)) ∙ ap Some (best_assoc b (touch d a) (best_by (touch d) (of_kind k l)))
      go r false = r b

  -- from none of them
  kind_is : (k : ℕ) (l : List Item) → come (keeps k None l) ≡ kind_by (touch d) (of_kind k l)
  unfolding of_kind best_by
  kind_is k [] = refl
  kind_is k (a ∷ l) = go (kind_is k l) (eqb (kind_of a) k)
    where
      go : come (keeps k None l) ≡ kind_by (touch d) (of_kind k l) → (t : Bool) → come (keeps k (if t then keep None (touch d a) else None) l) ≡ kind_by (touch d) (if t then a ∷ of_kind k l else of_kind k l)
      go r true = ap come (after k (touch d a) l)
      go r false = r

  -- the four kinds, each by itself
  years_are : (h : Found) (l : List Item) → (with_items d h l).years ≡ keeps 1 h.years l
  unfolding with_item with_items
  years_are h [] = refl
  years_are h (a ∷ l) = years_are (with_item d h a) l

  month_days_are : (h : Found) (l : List Item) → (with_items d h l).month_days ≡ keeps 2 h.month_days l
  unfolding with_item with_items
  month_days_are h [] = refl
  month_days_are h (a ∷ l) = month_days_are (with_item d h a) l

  weeks_are : (h : Found) (l : List Item) → (with_items d h l).weeks ≡ keeps 3 h.weeks l
  unfolding with_item with_items
  weeks_are h [] = refl
  weeks_are h (a ∷ l) = weeks_are (with_item d h a) l

  weekdays_are : (h : Found) (l : List Item) → (with_items d h l).weekdays ≡ keeps 4 h.weekdays l
  unfolding with_item with_items
  weekdays_are h [] = refl
  weekdays_are h (a ∷ l) = weekdays_are (with_item d h a) l

pub item_by_item : ItemByItem
unfolding rule_by
item_by_item d l =
    rw (years_are d begun l, month_days_are d begun l, weeks_are d begun l, weekdays_are d begun l)
    (rw (kind_is d 1 l, kind_is d 2 l, kind_is d 3 l, kind_is d 4 l))

pub one_more : OneMore
unfolding with_items
one_more d h [] a = refl
one_more d h (b ∷ l) a = one_more d (with_item d h b) l a
