-- The rules of the house profile, a sentence each, and that the judgement says just these (docs/RULES.md, 9).
use Rattle.std.specs.Prelude.{ℕ, ◌≤◌, ◌<◌, false, List, [], ◌∷◌, None, ◌≡◌}
use Rattle.records.specs.declared.Time.{Time}
use Rattle.records.specs.declared.Time.TheVariants.{Fixed, Dawn, Sunrise, Sunset, Dusk}
use Rattle.records.specs.declared.Span.{Span}
use Rattle.records.specs.declared.Item.TheVariants.{Years, Months, Dates, Weeks, Weekdays, Holidays, Times}
use Rattle.records.specs.Words.{Placed}
use Rattle.rules.specs.Rules.{Rule}
use Rattle.house.specs.Spans.{minutes}
use Rattle.house.specs.Breaks.{rules_break}

-- every one of a list is so
abbrev pub Each : {A : Type 0} → (A → Type 0) → List A → Type 0
Each P [] = Unit {0}
Each P (a ∷ l) = P a × Each P l

-- an item that is a span is so
abbrev pub Spanned : (Span → Type 0) → Placed → Type 0
Spanned P (Years r, p) = Unit {0}
Spanned P (Months r, p) = Unit {0}
Spanned P (Dates r, p) = Unit {0}
Spanned P (Weeks r, p) = Unit {0}
Spanned P (Weekdays r, p) = Unit {0}
Spanned P (Holidays r, p) = Unit {0}
Spanned P (Times x, p) = P x

-- a clock time, up to 24:00
abbrev pub Clock : Time → Type 0
Clock (Fixed m) = m ≤ 1440
Clock (Dawn m) = ⊥
Clock (Sunrise m) = ⊥
Clock (Sunset m) = ⊥
Clock (Dusk m) = ⊥

-- only clock times, up to 24:00, without repeat or open end
pub record Form (x : Span) : Type 0 where
  pub start : Clock x.start
  pub end : Clock x.end
  pub once : x.repeats ≡ None
  pub closed : x.open_end ≡ false

-- its end after its start
abbrev pub Forward : Span → Type 0
Forward x = minutes x.start < minutes x.end

-- no earlier than another's end; touching is allowed
abbrev pub After : ℕ → Span → Type 0
After end x = end ≤ minutes x.start

-- each span of a rule after the ends of all earlier ones
abbrev pub Rising : List Placed → Type 0
Rising [] = Unit {0}
Rising (a ∷ l) = Spanned (λ x. Each (Spanned (After (minutes x.end))) l) a × Rising l

-- a rule that breaks none of these
pub record Keeps (r : Rule) : Type 0 where
  pub semicolon : r.0.separator ≡ 0
  pub form : Each (Spanned Form) r.1
  pub forward : Each (Spanned Forward) r.1
  pub rising : Rising r.1

-- the judgement finds no break exactly where every rule breaks none
abbrev pub Exactly : Type 0
Exactly = (l : List Rule) → (rules_break l ≡ None → Each Keeps l) × (Each Keeps l → rules_break l ≡ None)
