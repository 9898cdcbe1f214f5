-- Ranges: MM 0 to 59; hour 0 to 23 with 24:00 besides; as a span's end 0:00 to 48:00. `/24:00` is out of range (docs/RULES.md, 4).
-- `10:00+` ends at 24:00, open. Spans are not reordered. A time alone is refused as 8, but for the second edition, where it ends where it starts.
use Rattle.std.specs.Prelude.{ℕ, Bool, true, false, ◌&&◌, not, leb, ltb, ℤ, Option, Some, None, Ok, Err, if◌then◌else◌}
use Rattle.std.specs.Int.Signed.{le_z}
use Rattle.names.specs.declared.Manner.{Manner}
use Rattle.names.specs.declared.Manner.TheVariants.{First, Second, House}
use Rattle.names.specs.declared.refusals.Reason.TheVariants.{PointInTime, Range}
use Rattle.records.specs.Items.{Meant, signed}
use Rattle.records.specs.declared.Time.{Time}
use Rattle.records.specs.declared.Time.TheVariants.{Fixed, Dawn, Sunrise, Sunset, Dusk}
use Rattle.records.specs.declared.Item.TheVariants.{Times}
use Rattle.times.specs.Times.{Spelt}
use Rattle.times.specs.Shapes.{RawSpan, Alone, Open, Until}

-- the minutes of 24:00
abbrev pub midnight : ℕ
midnight = 1440

-- the minutes of 48:00, a day later
abbrev pub next_midnight : ℕ
next_midnight = 2880

-- what is added to an event, or taken off, in range: up to 24:00
abbrev pub near : ℤ → Bool
near m = le_z (signed true midnight) m && le_z m (signed false midnight)

-- a time in range: a clock time up to the last one; what is added to an event, or taken off, is near
abbrev pub good_time : ℕ → Time → Bool
good_time last (Fixed c) = leb c last
good_time last (Dawn m) = near m
good_time last (Sunrise m) = near m
good_time last (Sunset m) = near m
good_time last (Dusk m) = near m

-- a start in range: hour 0 to 23 with 24:00 besides, so a clock time up to 24:00
abbrev pub good_start : Time → Bool
good_start = good_time midnight

-- an end in range: a clock time up to 48:00, an event as at the start
abbrev pub good_end : Time → Bool
good_end = good_time next_midnight

-- a repeat in range: MM 0 to 59, hour 0 to 23, so below 24:00
abbrev pub good_repeat : Option ℕ → Bool
good_repeat None = true
good_repeat (Some n) = ltb n midnight

-- a span in range
abbrev pub good_span : RawSpan → Bool
good_span (Alone t) = good_start t.0
good_span (Open t) = good_start t.0
good_span (Until a b t) = good_start a.0 && good_end b.0 && good_repeat t.0

-- what a time alone is: a point in time, refused by the first edition and in a house sheet, a span that ends where it starts in the second edition
abbrev pub alone_of : Manner → Spelt → Meant
alone_of First t = Err PointInTime
alone_of House t = Err PointInTime
alone_of Second t =
    Ok (Times (record { start = t.0; end = t.0; repeats = None; open_end = false; point = true; odd_start = t.1; odd_end = false }))

-- what a span in range is
abbrev pub span_of : Manner → RawSpan → Meant
span_of m (Alone t) = alone_of m t
span_of m (Open t) =
    Ok (Times (record { start = t.0; end = Fixed midnight; repeats = None; open_end = true; point = false; odd_start = t.1; odd_end = false }))
span_of m (Until a b t) =
    Ok (Times (record { start = a.0; end = b.0; repeats = t.0; open_end = t.1; point = false; odd_start = a.1; odd_end = b.1 }))

-- the meaning: 4, then 8
unfoldable pub span_meaning : Manner → RawSpan → Meant
span_meaning m r = if not (good_span r) then Err Range else span_of m r
