-- No second answer meets a promise: an answer is known by what it says.
use Prim.Native.Nat.{ℕ}
use mathlib.Core.Path.{◌≡◌, ap}
use Rattle.std.specs.Prelude.{Option}
use Rattle.names.specs.Seen.{seen, seen_then}
use Rattle.names.specs.declared.Cursor.{Cursor}
use Rattle.names.proofs.OneAnswer.{seen_one_answer}
use Rattle.dates.specs.Dates.{Spelt}
use Rattle.dates.specs.Seen.{spelt, seen_day}
use Rattle.dates.specs.declared.RawRange.{RawRange}
use Rattle.dates.specs.declared.RawDay.{RawDay}
use Rattle.dates.specs.declared.RawDate.{RawDate}
use Rattle.dates.specs.declared.RawDates.{RawDates}

-- a value that is always there is known by what it says, and its place
then_one_answer : {A : Type 0} (x y : A × Cursor) → seen_then (λ a. a) x ≡ seen_then (λ a. a) y → x ≡ y
then_one_answer (a, c) (b, d) e = let h : c.at ≡ d.at = cc in let k : a ≡ b = cc in rw (k, h)

spelt_one : (x y : RawDay) → spelt x ≡ spelt y → x ≡ y
spelt_one x y e = rw (ap (λ (d : Spelt). d.0) e, ap (λ (d : Spelt). d.1) e)

pub day_one_answer : (x y : Option (RawDay × Cursor)) → seen_day x ≡ seen_day y → x ≡ y
day_one_answer = seen_one_answer spelt spelt_one

pub date_one_answer : (x y : Option (RawDate × Cursor)) → seen (λ a. a) x ≡ seen (λ a. a) y → x ≡ y
date_one_answer = seen_one_answer (λ a. a) (λ a b e. e)

pub range_then_one_answer : (x y : RawRange × Cursor) → seen_then (λ a. a) x ≡ seen_then (λ a. a) y → x ≡ y
range_then_one_answer = then_one_answer

pub step_then_one_answer : (x y : ℕ × Cursor) → seen_then (λ a. a) x ≡ seen_then (λ a. a) y → x ≡ y
step_then_one_answer = then_one_answer

pub year_then_one_answer : (x y : Option ℕ × Cursor) → seen_then (λ a. a) x ≡ seen_then (λ a. a) y → x ≡ y
year_then_one_answer = then_one_answer

pub dates_then_one_answer : (x y : RawDates × Cursor) → seen_then (λ a. a) x ≡ seen_then (λ a. a) y → x ≡ y
dates_then_one_answer = then_one_answer
