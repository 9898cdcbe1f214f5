-- No second answer meets a promise: an answer is known by what it says.
use Rattle.std.specs.Prelude.{Option, ℤ}
use mathlib.Core.Path.{◌≡◌}
use Rattle.names.specs.Seen.{seen, seen_then}
use Rattle.names.specs.declared.Cursor.{Cursor}
use Rattle.names.proofs.OneAnswer.{seen_one_answer}
use Rattle.records.specs.Items.{Meant}
use Rattle.days.specs.declared.Marks.{Marks}
use Rattle.days.specs.declared.RawOffset.{RawOffset}

pub days_one_answer : (x y : Option (ℤ × Cursor)) → seen (λ a. a) x ≡ seen (λ a. a) y → x ≡ y
days_one_answer = seen_one_answer (λ a. a) (λ a b e. e)

pub marks_one_answer : (x y : Option (Marks × Cursor)) → seen (λ a. a) x ≡ seen (λ a. a) y → x ≡ y
marks_one_answer = seen_one_answer (λ a. a) (λ a b e. e)

-- the same of an answer that is always there, of any value
then_one_answer : {A : Type 0} (x y : A × Cursor) → seen_then (λ a. a) x ≡ seen_then (λ a. a) y → x ≡ y
then_one_answer x y e = let h : x.1.at ≡ y.1.at = cc in let k : x.0 ≡ y.0 = cc in rw (k, h)

pub offset_then_one_answer : (x y : RawOffset × Cursor) → seen_then (λ a. a) x ≡ seen_then (λ a. a) y → x ≡ y
offset_then_one_answer = then_one_answer

pub days_then_one_answer : (x y : ℤ × Cursor) → seen_then (λ a. a) x ≡ seen_then (λ a. a) y → x ≡ y
days_then_one_answer = then_one_answer

pub weekdays_then_one_answer : (x y : Meant × Cursor) → seen_then (λ a. a) x ≡ seen_then (λ a. a) y → x ≡ y
weekdays_then_one_answer = then_one_answer
