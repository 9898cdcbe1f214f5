-- A house reading accepts exactly what edition 1 accepts and what breaks no sentence of the profile, with the same records.
use Rattle.std.specs.Prelude.{None, Some}
use Rattle.std.specs.Prelude.{if◌then◌else◌}
use Prim.Native.Nat.{ℕ, ◌/◌, ◌<◌}
use mathlib.Core.Bool.{Bool, true, false, not}
use mathlib.Core.List.{List}
use mathlib.Core.Path.{◌≡◌, refl, sym, ap, ◌∙◌, subst}
use native.Mathlib.Omega.{arith}
use lib.Dec.{ltb}
use lib.IntN.{ℤ}
use lib.ListN.{length, take}
use Rattle.names.specs.Read.{Reader, got, none, refused}
use Rattle.names.specs.declared.Manner.TheVariants.{First, House}
use Rattle.rules.specs.Rules.{Rule}
use Rattle.house.specs.Breaks.{rules_break}
use Rattle.house.specs.Spans.{Break}
use Rattle.names.specs.Refusals.{number}
use Rattle.names.specs.declared.refusals.Reason.{Reason}
use Rattle.names.specs.declared.refusals.Refusal.{Refusal}
use Rattle.house.proofs.Profile.{exactly}
use Rattle.text_rules.specs.Texts.{rules, records, warnings}
use Rattle.sheet.specs.Sheets.{answer_of, refusal, judged_text, text_of, sheet_by}
use Rattle.parts.specs.Parts.{begins, part_end}
use Rattle.sheet.specs.PartReadings.{with_next, part_to, part_refusal, part_by}
use Rattle.sheet.specs.declared.Answer.{Answer}
use Rattle.sheet.specs.declared.PartAnswer.{PartAnswer}
use Rattle.demands.specs.Houses.{OverFirst, HouseSheets, HouseParts}
use Rattle.demands.proofs.Judged.{Rules, settled, judged, judged_is, first_rules, number_positive, Numbered, rules_number, judged_numbered}
use Rattle.demands.proofs.Numbers.{next_same}
use Rattle.demands.proofs.HouseRecords.{keeps_to, keeps_of}
use Rattle.demands.proofs.HouseRules.{rules_same}

-- ---- a text

abbrev Same : Answer × List (List ℤ) → Answer × List (List ℤ) → Type 0
Same = OverFirst (λ (a : Answer). a.number)

-- what both refuse so
same_refusal : (k q : ℕ) → 0 < k → Same (refusal k q) (refusal k q)
same_refusal k q h = record { accepted = λ e. absurd (omega arith); accepts = λ e. absurd (omega arith); refuses = λ _ _. refl }

-- rules that edition 1 read, by their first break
module _ (l : List Rule) (p : ℕ) where
  -- what they come to in a table that is too small, or not
  abbrev filled : Bool → Answer × List (List ℤ)
  filled full = if full then refusal 10 p else (answer_of 0 0 (length (records l)) (warnings l), records l)

  unbroken_same : (full : Bool) → rules_break l ≡ None → Same (filled full) (filled full)
  unbroken_same true e = same_refusal 10 p (omega arith)
  unbroken_same false e = record { accepted = λ _. (refl, keeps_to l ((exactly l).0 e)); accepts = λ _ _. refl; refuses = λ a. absurd (a refl) }

  broken_same : (full : Bool) (r : (Refusal Reason)) → rules_break l ≡ Some r → 0 < number r.reason → Same (refusal (number r.reason) r.place) (filled full)
  broken_same true r e h = record { accepted = λ a. absurd (omega arith); accepts = λ a. absurd (omega arith); refuses = λ _ b. absurd (b refl) }
  broken_same false r e h = record { accepted = λ a. absurd (omega arith); accepts = λ _ b. absurd (nowhere r (sym e ∙ (exactly l).1 (keeps_of l b))); refuses = λ a. absurd (a refl) }
    where
      nowhere : (r : (Refusal Reason)) → Some r ≡ None → ⊥
      nowhere r e = cc

module _ (s : List ℕ) (p n : ℕ) where
  read_same : (l : List Rule × Unit {0}) (j : ℕ) (b : Break) → rules_break l.0 ≡ b → Numbered House (settled l j b) → Same (judged_text p n (settled l j b)) (judged_text p n (got l j))
  read_same l j None e h = unbroken_same l.0 p (ltb (n / 16) (length (records l.0))) e
  read_same l j (Some r) e h = broken_same l.0 p (ltb (n / 16) (length (records l.0))) r e (number_positive House h)

  rules_judged : (x : Rules) → Numbered House x → Same (judged_text p n (judged House x)) (judged_text p n x)
  rules_judged (got l j) h = read_same l j (rules_break l.0) refl (judged_numbered House (got l j) tt)
  rules_judged none h = same_refusal 3 p (omega arith)
  rules_judged (refused k q) h = same_refusal k q (number_positive House h)

  text_same : Same (text_of House s p n) (text_of First s p n)
  unfolding text_of
  text_same =
      rw (judged_is House s p, rules_same, first_rules s p)
      (rules_judged (rules First s p) (subst (λ (r : Reader (List Rule × Unit {0})). Numbered House (r s p)) rules_same (rules_number House s p)))

-- ---- a sheet, and a part

pub house_sheets : HouseSheets
unfolding sheet_by
house_sheets s n = go (ltb 4096 (length s))
  where
    go : (b : Bool) → Same (if b then refusal 1 0 else text_of House s 0 n) (if b then refusal 1 0 else text_of First s 0 n)
    go true = same_refusal 1 0 (omega arith)
    go false = text_same s 0 n

abbrev SamePart : PartAnswer × List (List ℤ) → PartAnswer × List (List ℤ) → Type 0
SamePart = OverFirst (λ (a : PartAnswer). a.number)

part_refused : (k : ℕ) → 0 < k → SamePart (part_refusal k) (part_refusal k)
part_refused k h = record { accepted = λ e. absurd (omega arith); accepts = λ e. absurd (omega arith); refuses = λ _ _. refl }

-- with the next part's place
next_part : (s : List ℕ) (e : ℕ) (house first : Answer × List (List ℤ)) → Same house first → SamePart (with_next s e house.0, house.1) (with_next s e first.0, first.1)
next_part s e house first h =
    let number : (r : Answer × List (List ℤ)) → (with_next s e r.0).number ≡ r.0.number = λ r. next_same s e r.0 in
    let whole : house ≡ first → ◌≡◌ {A = PartAnswer × List (List ℤ)} (with_next s e house.0, house.1) (with_next s e first.0, first.1) = λ q. ap (λ
    (r : Answer × List (List ℤ)). (with_next s e r.0, r.1)) q in
    record {
      accepted = λ a. let k = h.accepted (sym (number house) ∙ a) in (whole k.0, k.1);
      accepts = λ a b. whole (h.accepts (sym (number first) ∙ a) b);
      refuses = λ a b. whole (h.refuses (λ q. a (number first ∙ q)) (λ q. b (number first ∙ q)));
    }

pub house_parts : HouseParts
unfolding part_by
house_parts s p n = go (ltb 4096 (length s)) (not (begins s p))
  where
    k : ℕ
    k = part_end s p

    go : (b c : Bool) → SamePart (if b then part_refusal 1 else if c then part_refusal 2 else part_to House s p n k) (if b then part_refusal 1 else if c then part_refusal 2 else part_to First s p n k)
    go true c = part_refused 1 (omega arith)
    go false true = part_refused 2 (omega arith)
    go false false = next_part s k (text_of House (take k s) p n) (text_of First (take k s) p n) (text_same (take k s) p n)
