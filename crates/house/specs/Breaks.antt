-- The first break of rules that were read, leftmost: their places rise (docs/RULES.md, 9).
use Rattle.std.specs.Prelude.{ℕ, List, [], ◌∷◌, eqb, Option, Some, None, if◌then◌else◌}
use Rattle.names.specs.declared.refusals.Reason.{Reason}
use Rattle.names.specs.declared.refusals.Reason.TheVariants.{HouseForm}
use Rattle.names.specs.declared.refusals.Refusal.{Refusal}
use Rattle.names.specs.declared.Manner.{Manner}
use Rattle.names.specs.declared.Manner.TheVariants.{First, Second, House}
use Rattle.records.specs.declared.Item.{Item}
use Rattle.records.specs.declared.Item.TheVariants.{Years, Months, Dates, Weeks, Weekdays, Holidays, Times}
use Rattle.records.specs.Words.{Placed}
use Rattle.rules.specs.Rules.{Rule}
use Rattle.house.specs.Spans.{Break, at, minutes, span_break_as}
use Rattle.house.specs.declared.Judgement.{Judgement}

-- a break, or else another
abbrev pub first_of : {A : Type 0} → Option A → Option A → Option A
first_of None b = b
first_of (Some r) b = Some r

-- the break of an item, after spans of its rule that end there: only times are judged
abbrev pub item_break_as : {R : Type 0} → (Reason → R) → ℕ → Placed → Option (Refusal R)
item_break_as of end (Years r, p) = None
item_break_as of end (Months r, p) = None
item_break_as of end (Dates r, p) = None
item_break_as of end (Weeks r, p) = None
item_break_as of end (Weekdays r, p) = None
item_break_as of end (Holidays r, p) = None
item_break_as of end (Times x, p) = span_break_as of end p x

abbrev pub item_break : ℕ → Placed → Break
item_break = item_break_as (λ r. r)

-- where the spans end with this item
abbrev pub end_with : ℕ → Item → ℕ
end_with end (Years r) = end
end_with end (Months r) = end
end_with end (Dates r) = end
end_with end (Weeks r) = end
end_with end (Weekdays r) = end
end_with end (Holidays r) = end
end_with end (Times x) = minutes x.end

-- the first break of a rule's items
unfoldable pub items_break : ℕ → List Placed → Break
items_break end [] = None
items_break end (a ∷ l) = first_of (item_break end a) (items_break (end_with end a.0) l)

-- a rule that another separator than `;` parts from the one before, at its own place
unfoldable pub separator_break : ℕ → ℕ → Break
separator_break separator place = if eqb separator 0 then None else at HouseForm place

-- the first break of a rule
abbrev pub rule_break : Rule → Break
rule_break r = first_of (separator_break r.0.separator r.0.place) (items_break 0 r.1)

-- the first break of rules
unfoldable pub rules_break : List Rule → Break
rules_break [] = None
rules_break (r ∷ l) = first_of (rule_break r) (rules_break l)

-- only a house sheet is judged
abbrev pub judged_by : Manner → Break → Break
judged_by First b = None
judged_by Second b = None
judged_by House b = b

-- ---- what the code knows of a rule, item by item

-- before its items
abbrev pub begun : Manner → ℕ → ℕ → Judgement Reason
begun m separator place = record { first = judged_by m (separator_break separator place); end = 0 }

-- with an item more, in a house sheet
abbrev pub with_house_item_as : {R : Type 0} → (Reason → R) → Judgement R → Placed → Judgement R
with_house_item_as of h a = record { first = first_of h.first (item_break_as of h.end a); end = end_with h.end a.0 }

abbrev pub with_house_item : Judgement Reason → Placed → Judgement Reason
with_house_item = with_house_item_as (λ r. r)

-- with an item more
abbrev pub with_item_as : {R : Type 0} → (Reason → R) → Manner → Judgement R → Placed → Judgement R
with_item_as of First h a = h
with_item_as of Second h a = h
with_item_as of House h a = with_house_item_as of h a

abbrev pub with_item : Manner → Judgement Reason → Placed → Judgement Reason
with_item = with_item_as (λ r. r)

-- with these items
abbrev pub with_items : Manner → Judgement Reason → List Placed → Judgement Reason
with_items m h [] = h
with_items m h (a ∷ l) = with_items m (with_item m h a) l
