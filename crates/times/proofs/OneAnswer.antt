-- No second answer meets a promise: an answer is known by what it says.
use Prim.Native.Nat.{ℕ}
use mathlib.Core.Path.{◌≡◌, ap}
use Rattle.std.specs.Prelude.{Option}
use Rattle.names.proofs.OneAnswer.{seen_one_answer}
use Rattle.names.specs.declared.Cursor.{Cursor}
use Rattle.times.specs.Times.{Spelt}
use Rattle.times.specs.Seen.{seen_clock, spelt, seen_time}
use Rattle.times.specs.declared.SpeltTime.{SpeltTime}

pub clock_one_answer : (x y : Option (ℕ × Cursor)) → seen_clock x ≡ seen_clock y → x ≡ y
clock_one_answer = seen_one_answer (λ t. t) (λ a b e. e)

spelt_one : (a b : SpeltTime) → spelt a ≡ spelt b → a ≡ b
spelt_one a b e = rw (ap (λ (x : Spelt). x.0) e, ap (λ (x : Spelt). x.1) e)

pub time_one_answer : (x y : Option (SpeltTime × Cursor)) → seen_time x ≡ seen_time y → x ≡ y
time_one_answer = seen_one_answer spelt spelt_one
