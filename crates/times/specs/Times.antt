-- Time: `H:MM`, or an event (`dawn`, `sunrise`, `sunset`, `dusk`), or `(event±H:MM)` (docs/RULES.md, 2).
use Rattle.std.specs.Prelude.{ℕ, ◌+◌, ◌*◌, Bool, true, false, leb, eqb, ℤ, if◌then◌else◌}
use Rattle.names.specs.Read.{Read, got, none, refused, Reader, pure, ◌>>=◌, ◌>>◌, ◌or◌}
use Rattle.names.specs.Texts.{sign}
use Rattle.names.specs.Numbers.{hour, minute}
use Rattle.names.specs.Names.{event}
use Rattle.names.specs.Spellings.{named}
use Rattle.records.specs.Items.{signed}
use Rattle.records.specs.declared.Time.{Time}
use Rattle.records.specs.declared.Time.TheVariants.{Fixed, Dawn, Sunrise, Sunset, Dusk}

-- MM in range: 0 to 59
abbrev pub good_minute : ℕ → Bool
good_minute m = leb m 59

-- what is read where MM is out of range: more minutes than any range allows, since 48:00 has 2,880, and than any clock time has, since 99:59 has 5,999
abbrev pub out_of_range : ℕ
out_of_range = 9999

-- a clock time's minutes since midnight; a shape is read whatever its numbers, and judged after that
abbrev pub minutes_of : ℕ → ℕ → ℕ
minutes_of h m = if good_minute m then h * 60 + m else out_of_range

-- `H:MM`
unfoldable pub clock : Reader ℕ
clock = do
  h ← hour
  sign ":"
  m ← minute
  pure (minutes_of h m)

-- an event by its name: which one, and whether the name calls for a warning
abbrev pub Event : Type 0
Event = ℕ × Bool

-- a time as it is written: which one, and whether the name of its event calls for a warning
abbrev pub Spelt : Type 0
Spelt = Time × Bool

-- an event by its number in the table of names: 1 dawn, 2 sunrise, 3 sunset, 4 dusk
unfoldable pub event_of : ℕ → ℤ → Time
event_of e m = if eqb e 1 then Dawn m else if eqb e 2 then Sunrise m else if eqb e 3 then Sunset m else Dusk m

-- an event with minutes added to it, or taken off
abbrev pub sun : Event → Bool → ℕ → Spelt
sun e negative c = (event_of e.0 (signed negative c), e.1)

-- an event as it stands
abbrev pub event_alone : Event → Spelt
event_alone e = sun e false 0

-- a reading of a clock time that is added to an event, or taken off
abbrev pub sun_of : Event → Bool → Read ℕ → Read Spelt
sun_of e negative (got c j) = got (sun e negative c) j
sun_of e negative none = none
sun_of e negative (refused k p) = refused k p

-- after `(` and an event: `±H:MM`
unfoldable pub with_offset : Event → Reader Spelt
with_offset e = (do sign "+"; c ← clock; pure (sun e false c)) or (do sign "-"; c ← clock; pure (sun e true c))

-- `(event±H:MM)`
unfoldable pub event_with_offset : Reader Spelt
event_with_offset = do
  sign "("
  e ← named event
  t ← with_offset e
  sign ")"
  pure t

-- an event, or `(event±H:MM)`
abbrev pub event_time : Reader Spelt
event_time = (do e ← named event; pure (event_alone e)) or event_with_offset

-- a time
unfoldable pub time : Reader Spelt
time = (do c ← clock; pure (Fixed c, false)) or event_time
