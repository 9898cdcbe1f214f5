-- What the code knows of a rule, item by item, is the rule's first break.
use Prim.Native.Nat.{ℕ}
use mathlib.Core.Bool.{false}
use mathlib.Core.List.{List, [], ◌∷◌}
use mathlib.Core.Path.{◌≡◌, refl, sym, ◌∙◌}
use Rattle.names.specs.declared.Manner.{Manner}
use Rattle.names.specs.declared.refusals.Reason.{Reason}
use Rattle.names.specs.declared.Manner.TheVariants.{First, Second, House}
use Rattle.records.specs.declared.Time.{Time}
use Rattle.records.specs.declared.Time.TheVariants.{Fixed, Dawn, Sunrise, Sunset, Dusk}
use Rattle.records.specs.declared.Item.{Item}
use Rattle.records.specs.declared.Item.TheVariants.{Years, Months, Dates, Weeks, Weekdays, Holidays, Times}
use Rattle.records.specs.declared.Span.{Span}
use Rattle.records.specs.Words.{Placed}
use Rattle.rules.specs.Rules.{Rule}
use Rattle.std.specs.Prelude.{Some, None}
use Rattle.house.specs.Spans.{Break, is_clock, minutes}
use Rattle.house.specs.Breaks.{first_of, item_break, end_with, items_break, separator_break, rule_break, judged_by, begun, with_house_item, with_item, with_items}
use Rattle.house.specs.declared.Judgement.{Judgement}

-- no later break
pub first_none : (b : Break) → first_of b None ≡ b
first_none None = refl
first_none (Some r) = refl

-- of three, in any grouping
pub first_assoc : (a b c : Break) → first_of (first_of a b) c ≡ first_of a (first_of b c)
first_assoc None b c = refl
first_assoc (Some r) b c = refl

-- an event is no clock time, and has no minutes of the clock
pub event_is : (t : Time) → ((m : ℕ) → t ≡ Fixed m → ⊥) → (false ≡ is_clock t) × (0 ≡ minutes t)
unfolding is_clock minutes
event_is (Fixed m) k = absurd (k m refl)
event_is (Dawn m) k = (refl, refl)
event_is (Sunrise m) k = (refl, refl)
event_is (Sunset m) k = (refl, refl)
event_is (Dusk m) k = (refl, refl)

-- a judgement with no later break is the same
pub same : (h : Judgement Reason) → h ≡ record { first = first_of h.first None; end = h.end }
same h = rw (first_none h.first)

-- items that are no times change nothing, in any manner
pub other_item : (m : Manner) (h : Judgement Reason) (a : Item) (p : ℕ) → ((x : Span) → a ≡ Times x → ⊥) → h ≡ with_item m h (a, p)
other_item First h a p k = refl
other_item Second h a p k = refl
other_item House h (Years r) p k = same h
other_item House h (Months r) p k = same h
other_item House h (Dates r) p k = same h
other_item House h (Weeks r) p k = same h
other_item House h (Weekdays r) p k = same h
other_item House h (Holidays r) p k = same h
other_item House h (Times x) p k = absurd (k x refl)

-- where nothing breaks, nothing is judged to
pub judged_none : (m : Manner) → judged_by m None ≡ None
judged_none First = refl
judged_none Second = refl
judged_none House = refl

-- what is judged of two
pub judged_first : (m : Manner) (a b : Break) → judged_by m (first_of a b) ≡ first_of (judged_by m a) (judged_by m b)
judged_first First a b = refl
judged_first Second a b = refl
judged_first House a b = refl

-- what is known after a list of items is what was known, and their first break
pub items_first : (m : Manner) (l : List Placed) (h : Judgement Reason) → (with_items m h l).first ≡ first_of h.first (judged_by m (items_break h.end l))
unfolding items_break
items_first First [] h = sym (first_none h.first)
items_first First (a ∷ l) h = items_first First l h
items_first Second [] h = sym (first_none h.first)
items_first Second (a ∷ l) h = items_first Second l h
items_first House [] h = sym (first_none h.first)
items_first House (a ∷ l) h = items_first House l (with_house_item h a) ∙ first_assoc h.first (item_break h.end a) (items_break (end_with h.end a.0) l)

-- after all items of a rule it is the rule's first break
pub rule_first : (m : Manner) (r : Rule) → (with_items m (begun m r.0.separator r.0.place) r.1).first ≡ judged_by m (rule_break r)
rule_first m r =
    let s = separator_break r.0.separator r.0.place in
    items_first m r.1 (begun m r.0.separator r.0.place) ∙ sym (judged_first m s (items_break 0 r.1))
