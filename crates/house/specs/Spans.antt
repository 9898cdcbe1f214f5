-- A span: its form, and its order after the earlier ones of its rule (docs/RULES.md, 9).
use Rattle.std.specs.Prelude.{ℕ, Bool, true, false, ◌&&◌, not, ltb, leb, Option, Some, None, if◌then◌else◌}
use Rattle.std.specs.Option.{is_none}
use Rattle.names.specs.declared.refusals.Reason.{Reason}
use Rattle.names.specs.declared.refusals.Reason.TheVariants.{HouseForm, HouseOrder}
use Rattle.names.specs.declared.refusals.Refusal.{Refusal}
use Rattle.records.specs.declared.Time.{Time}
use Rattle.records.specs.declared.Time.TheVariants.{Fixed, Dawn, Sunrise, Sunset, Dusk}
use Rattle.records.specs.declared.Span.{Span}

-- a break, at its place, or none
abbrev pub Break : Type 0
Break = Option (Refusal Reason)

-- a break as it is for one who knows breaks otherwise: of r is what a reason is there
abbrev pub at_as : {R : Type 0} → (Reason → R) → Reason → ℕ → Option (Refusal R)
at_as of r place = Some (record { reason = of r; place = place })

abbrev pub at : Reason → ℕ → Break
at = at_as (λ r. r)

-- a clock time up to 24:00
unfoldable pub is_clock : Time → Bool
is_clock (Fixed m) = leb m 1440
is_clock (Dawn m) = false
is_clock (Sunrise m) = false
is_clock (Sunset m) = false
is_clock (Dusk m) = false

-- its minutes
unfoldable pub minutes : Time → ℕ
minutes (Fixed m) = m
minutes (Dawn m) = 0
minutes (Sunrise m) = 0
minutes (Sunset m) = 0
minutes (Dusk m) = 0

-- no repeat
abbrev pub is_never : Option ℕ → Bool
is_never = is_none

-- only clock times, up to 24:00
unfoldable pub of_clocks : Span → Bool
of_clocks x = is_clock x.start && is_clock x.end

-- without repeat or open end
unfoldable pub is_plain : Span → Bool
is_plain x = is_never x.repeats && not x.open_end

abbrev pub allowed : Span → Bool
allowed x = of_clocks x && is_plain x

-- it ends after its start, and starts no earlier than the earlier ones of its rule end
unfoldable pub in_order : ℕ → Span → Bool
in_order end x = ltb (minutes x.start) (minutes x.end) && leb end (minutes x.start)

-- the break of a span at a place, after spans of its rule that end there: 22 before 23
unfoldable pub span_break_as : {R : Type 0} → (Reason → R) → ℕ → ℕ → Span → Option (Refusal R)
span_break_as of end place x = if allowed x then (if in_order end x then None else at_as of HouseOrder place) else at_as of HouseForm place

abbrev pub span_break : ℕ → ℕ → Span → Break
span_break = span_break_as (λ r. r)
