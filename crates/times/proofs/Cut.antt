-- Times and spans depend on nothing before their place and nothing from a `;` outside quotes on: the lemmas put together as the definitions are.
use Prim.Native.Nat.{ℕ}
use mathlib.Core.List.{List}
use mathlib.Core.Bool.{not}
use mathlib.Core.Path.{refl}
use native.Mathlib.Omega.{arith}
use Rattle.std.specs.Prelude.{Err}
use Rattle.names.specs.Names.{event}
use Rattle.names.specs.declared.Manner.{Manner}
use Rattle.names.specs.declared.Manner.TheVariants.{First, Second, House}
use Rattle.names.specs.declared.refusals.Reason.TheVariants.{Range}
use Rattle.names.proofs.Local.{loose, free, in_any, pure_local, bind_local, then_local, or_local}
use Rattle.names.proofs.Laws.{either}
use Rattle.names.proofs.Cut.{byte_local, hour_local, minute_local, minutes_local}
use Rattle.names.proofs.Odd.{named_local}
use Rattle.records.proofs.Cut.{Alike, AlikeIn, RefusesIn, item_alike}
use Rattle.times.specs.Times.{clock, Event, Spelt, with_offset, event_with_offset, time}
use Rattle.times.specs.Spans.{repeated, tail, until_time, span_after, span_shape, time_item}
use Rattle.times.specs.Meanings.{good_span, span_of, span_meaning}
use Rattle.times.specs.Shapes.{RawSpan, Alone, Open, Until}

module _ {u : List ℕ} where
  pub clock_alike : Alike u 2 clock
  unfolding clock
  clock_alike = bind_local hour_local (λ h. then_local (byte_local 58 refl refl) (λ _. then_local (free minute_local) (λ m. pure_local _)))

  pub with_offset_alike : (e : Event) → Alike u 1 (with_offset e)
  unfolding with_offset
  with_offset_alike e =
      or_local (then_local (byte_local 43 refl refl) (λ _. then_local (free clock_alike) (λ c. pure_local _)))
      (then_local (byte_local 45 refl refl) (λ _. then_local (free clock_alike) (λ c. pure_local _)))

  pub event_with_offset_alike : Alike u 2 event_with_offset
  unfolding event_with_offset
  event_with_offset_alike =
      bind_local {l = 1} (byte_local 40 refl refl) (λ _. then_local (loose (named_local event) (omega arith)) (λ e.
      then_local (free (with_offset_alike e)) (λ t. then_local (free (byte_local 41 refl refl)) (λ _. pure_local t))))

  pub time_alike : Alike u 2 time
  unfolding time
  time_alike = or_local (then_local clock_alike (λ c. pure_local _)) (or_local (then_local (named_local event) (λ e. pure_local _)) event_with_offset_alike)

  pub repeated_alike : Alike u 2 repeated
  unfolding repeated
  repeated_alike = or_local clock_alike (then_local minutes_local (λ m. pure_local _))

  pub tail_alike : Alike u 0 tail
  unfolding tail
  tail_alike =
      or_local (free (then_local (byte_local 43 refl refl) (λ _. pure_local _)))
      (or_local (free (then_local (byte_local 47 refl refl) (λ _. then_local (free repeated_alike) (λ n. pure_local _)))) (pure_local _))

  pub until_time_alike : (start : Spelt) → Alike u 1 (until_time start)
  unfolding until_time
  until_time_alike start = then_local (byte_local 45 refl refl) (λ _. then_local (free time_alike) (λ end. then_local tail_alike (λ t. pure_local _)))

  pub span_after_alike : (start : Spelt) → Alike u 0 (span_after start)
  unfolding span_after
  span_after_alike start = or_local (free (then_local (byte_local 43 refl refl) (λ _. pure_local _))) (or_local (free (until_time_alike start)) (pure_local _))

  pub span_shape_alike : Alike u 2 span_shape
  unfolding span_shape
  span_shape_alike = then_local time_alike span_after_alike

-- a span's refusals have numbers
pub meaning_refuses : (m : Manner) (r : RawSpan) → RefusesIn m (span_meaning m r)
unfolding span_meaning
meaning_refuses m r = either (RefusesIn m) (not (good_span r)) (Err Range) (span_of m r) (four m) (go m r)
  where
    four : (m : Manner) → RefusesIn m (Err Range)
    four First = omega arith
    four Second = omega arith
    four House = omega arith

    go : (m : Manner) (r : RawSpan) → RefusesIn m (span_of m r)
    go First (Alone t) = omega arith
    go House (Alone t) = omega arith
    go Second (Alone t) = tt
    go m (Open t) = tt
    go m (Until a b t) = tt

-- an item of a time list
pub time_item_alike : (m : Manner) {u : List ℕ} → AlikeIn m u 2 (time_item m)
unfolding time_item
time_item_alike m = item_alike (in_any span_shape_alike) (span_meaning m) (meaning_refuses m)
