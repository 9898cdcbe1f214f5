-- Bad input gets one of the refusal numbers of the manner it is read in.
use Rattle.std.specs.Prelude.{if◌then◌else◌}
use Prim.Native.Nat.{ℕ, suc, ◌/◌, ◌≤◌}
use mathlib.Core.List.{List}
use mathlib.Core.Bool.{Bool, true, false, not}
use mathlib.Core.Logic.{◌⊎◌, inl, inr}
use mathlib.Core.Path.{◌≡◌, refl}
use native.Mathlib.Omega.{arith}
use lib.Dec.{ltb}
use lib.IntN.{ℤ}
use lib.ListN.{length, take}
use Rattle.names.specs.declared.Manner.{Manner}
use Rattle.names.proofs.Laws.{either}
use Rattle.names.specs.Read.{got, none, refused}
use Rattle.names.specs.Refusals.{too_long, no_part, point_in_time, house_form, house_order, greatest}
use Rattle.names.specs.declared.Manner.TheVariants.{First, Second, House}
use Rattle.text_rules.specs.Texts.{judged_rules, records}
use Rattle.sheet.specs.Sheets.{refusal, judged_text, text_of, sheet_by}
use Rattle.parts.specs.Parts.{begins, part_end}
use Rattle.sheet.specs.PartReadings.{part_answer_of, with_next, part_to, part_refusal, part_by}
use Rattle.sheet.specs.declared.Answer.{Answer}
use Rattle.sheet.specs.declared.PartAnswer.{PartAnswer}
use Rattle.demands.proofs.Judged.{Rules, NumberIn, Numbered, judged_number}

-- the numbers of the answers: up to the greatest of the rules', in edition 2 no point in time, and in a house sheet the profile's two
abbrev pub Given : Manner → ℕ → Type 0
Given First k = k ≤ greatest
Given Second k = (k ≤ greatest) × (k ≡ point_in_time → ⊥)
Given House k = (k ≤ greatest) ⊎ ((k ≡ house_form) ⊎ (k ≡ house_order))

given : (m : Manner) {k : ℕ} → (k ≤ greatest) × (k ≡ point_in_time → ⊥) → Given m k
given First h = h.0
given Second h = h
given House h = inl h.0

given_refused : (m : Manner) (k : ℕ) → NumberIn m k → Given m k
given_refused First k h = h.1.0
given_refused Second k h = h.1
given_refused House k (inl h) = inl h.1.0
given_refused House k (inr h) = inr h

-- an answer with such a number
abbrev Known : Manner → Answer × List (List ℤ) → Type 0
Known m r = Given m r.0.number

abbrev KnownPart : Manner → PartAnswer × List (List ℤ) → Type 0
KnownPart m r = Given m r.0.number

-- of a text
pub text_number : (m : Manner) (s : List ℕ) (p n : ℕ) → Given m (text_of m s p n).0.number
unfolding text_of
text_number m s p n = go (judged_rules m s p) (judged_number m s p)
  where
    go : (r : Rules) → Numbered m r → Given m (judged_text p n r).0.number
    go (got l j) h = either (Known m) (ltb (n / 16) (length (records l.0))) (refusal 10 p) _ (given m (omega arith)) (given m (omega arith))
    go none h = given m (omega arith)
    go (refused k q) h = given_refused m k h

-- of a sheet
pub sheet_number : (m : Manner) (s : List ℕ) (n : ℕ) → Given m (sheet_by m s n).0.number
unfolding sheet_by
sheet_number m s n = either (Known m) (ltb 4096 (length s)) (refusal 1 0) (text_of m s 0 n) (given m (omega arith)) (text_number m s 0 n)

-- with the next part's place
next_number : (m : Manner) (s : List ℕ) (e : ℕ) (a : Answer) → Given m a.number → Given m (with_next s e a).number
unfolding with_next
next_number m s e a h = either (λ r. Given m r.number) (ltb e (length s)) (part_answer_of a (suc e) false) (part_answer_of a 0 true) h h

-- the number of a part is its text's
pub next_same : (s : List ℕ) (e : ℕ) (a : Answer) → (with_next s e a).number ≡ a.number
unfolding with_next
next_same s e a = go (ltb e (length s))
  where
    go : (b : Bool) → (if b then part_answer_of a (suc e) false else part_answer_of a 0 true).number ≡ a.number
    go true = refl
    go false = refl

-- a part's answer by its cases: the sheet is too long, no part begins there, or the part's text is read
pub part_cases : (P : PartAnswer × List (List ℤ) → Type 0) (m : Manner) (s : List ℕ) (p n : ℕ) → P (part_refusal too_long) → P (part_refusal no_part) →
    P (part_to m s p n (part_end s p)) → P (part_by m s p n)
unfolding part_by
part_cases P m s p n long absent read =
    let begun = either P (not (begins s p)) (part_refusal no_part) (part_to m s p n (part_end s p)) absent read in
    either P (ltb 4096 (length s)) (part_refusal too_long) _ long begun

-- of a part
pub part_number : (m : Manner) (s : List ℕ) (p n : ℕ) → Given m (part_by m s p n).0.number
part_number m s p n =
    let e = part_end s p in
    let read : Given m (part_to m s p n e).0.number = next_number m s e (text_of m (take e s) p n).0 (text_number m (take e s) p n) in
    part_cases (KnownPart m) m s p n (given m (omega arith)) (given m (omega arith)) read
