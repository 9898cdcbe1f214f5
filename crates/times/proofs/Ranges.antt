-- The ranges in minutes are those that the rules say in hours and minutes (docs/RULES.md, 4).
use Prim.Native.Nat.{ℕ, zero, suc, ◌+◌, ◌*◌}
use mathlib.Core.Bool.{Bool, true, false, ◌&&◌, ◌||◌, and-true}
use mathlib.Core.Path.{◌≡◌, refl, sym, ◌∙◌}
use native.Mathlib.Omega.{arith}
use borrow.Author.Tests.{leb-true, leb-false, le-leb, lt-leb, eqb-true, eqb-false, lt-ltb, le-ltb}
use lib.Dec.{leb, ltb, eqb, leb-suc-suc}
use Rattle.std.specs.Prelude.{Some}
use Rattle.records.specs.Items.{signed}
use Rattle.records.specs.declared.Time.TheVariants.{Fixed}
use Rattle.times.specs.Times.{minutes_of}
use Rattle.times.specs.Meanings.{midnight, next_midnight, near, good_start, good_end, good_repeat}

-- either sign is in range with the same minutes
near_signed : (negative : Bool) (n : ℕ) → near (signed negative n) ≡ leb n midnight
near_signed false n = refl
near_signed true zero = refl
near_signed true (suc n) = and-true (leb n 1439) ∙ sym (leb-suc-suc n 1439)

module _ (h m : ℕ) where
  -- a start: MM 0 to 59, and hour 0 to 23 with 24:00 besides
  start_range : good_start (Fixed (minutes_of h m)) ≡ (leb m 59 && (leb h 23 || (eqb h 24 && eqb m 0)))
  start_range = minute _ refl
    where
      at_24 : (t : Bool) → eqb m 0 ≡ t → eqb h 24 ≡ true → leb (h * 60 + m) midnight ≡ t
      at_24 true e f = le-leb (h * 60 + m) midnight (omega (arith, eqb-true m 0 e, eqb-true h 24 f))
      at_24 false e f = lt-leb (h * 60 + m) midnight (omega (arith, eqb-false m 0 e, eqb-true h 24 f))

      from_24 : (t : Bool) → eqb h 24 ≡ t → leb h 23 ≡ false → leb (h * 60 + m) midnight ≡ (t && eqb m 0)
      from_24 true e f = at_24 _ refl e
      from_24 false e f = lt-leb (h * 60 + m) midnight (omega (arith, eqb-false h 24 e, leb-false h 23 f))

      hour : (t : Bool) → leb h 23 ≡ t → leb m 59 ≡ true → leb (h * 60 + m) midnight ≡ (t || (eqb h 24 && eqb m 0))
      hour true e f = le-leb (h * 60 + m) midnight (omega (arith, leb-true h 23 e, leb-true m 59 f))
      hour false e f = from_24 _ refl e

      minute : (t : Bool) → leb m 59 ≡ t → leb (minutes_of h m) midnight ≡ (t && (leb h 23 || (eqb h 24 && eqb m 0)))
      minute true e = rw e (hour _ refl e)
      minute false e = rw e

  -- what is added to an event, or taken off: the same
  event_range : (negative : Bool) → near (signed negative (minutes_of h m)) ≡ (leb m 59 && (leb h 23 || (eqb h 24 && eqb m 0)))
  event_range negative = near_signed negative (minutes_of h m) ∙ start_range

  -- an end: MM 0 to 59, and 0:00 to 48:00
  end_range : good_end (Fixed (minutes_of h m)) ≡ (leb m 59 && leb (h * 60 + m) next_midnight)
  end_range = minute _ refl
    where
      minute : (t : Bool) → leb m 59 ≡ t → leb (minutes_of h m) next_midnight ≡ (t && leb (h * 60 + m) next_midnight)
      minute true e = rw e
      minute false e = rw e

  -- a repeat, `/H:MM`: MM 0 to 59, and hour 0 to 23
  repeat_range : good_repeat (Some (minutes_of h m)) ≡ (leb m 59 && leb h 23)
  repeat_range = minute _ refl
    where
      hour : (t : Bool) → leb h 23 ≡ t → leb m 59 ≡ true → ltb (h * 60 + m) midnight ≡ t
      hour true e f = lt-ltb (h * 60 + m) midnight (omega (arith, leb-true h 23 e, leb-true m 59 f))
      hour false e f = le-ltb (h * 60 + m) midnight (omega (arith, leb-false h 23 e))

      minute : (t : Bool) → leb m 59 ≡ t → ltb (minutes_of h m) midnight ≡ (t && leb h 23)
      minute true e = rw e (hour _ refl e)
      minute false e = rw e

-- a repeat, `/MM`: 0 to 59
minutes_range : (m : ℕ) → good_repeat (Some (minutes_of 0 m)) ≡ leb m 59
minutes_range m = repeat_range 0 m ∙ and-true (leb m 59)
