-- So the records of a sheet and of a part fit, where there are any.
use Rattle.std.specs.Prelude.{None, Some}
use Rattle.std.specs.Prelude.{if◌then◌else◌}
use Prim.Native.Nat.{ℕ, suc, ◌/◌, ◌≤◌}
use native.Mathlib.Omega.{arith}
use mathlib.Core.List.{List}
use mathlib.Core.Bool.{Bool, true, false, not}
use mathlib.Core.Path.{◌≡◌, refl}
use lib.Dec.{ltb}
use lib.IntN.{ℤ}
use lib.ListN.{length, take}
use Rattle.names.specs.Read.{Read, got, none, refused}
use Rattle.names.specs.Refusals.{no_room, too_long, no_part}
use Rattle.names.specs.declared.Manner.{Manner}
use Rattle.house.specs.Breaks.{judged_by, rules_break}
use Rattle.house.specs.Spans.{Break}
use Rattle.names.specs.Refusals.{number}
use Rattle.rules.specs.Rules.{Rule}
use Rattle.text_rules.specs.Texts.{unbroken, judged_rules, records, warnings}
use Rattle.tables.specs.Tables.{records_fit}
use Rattle.parts.specs.Parts.{begins, part_end}
use Rattle.sheet.specs.Sheets.{answer_of, refusal, judged_text, text_of, sheet_by}
use Rattle.sheet.specs.PartReadings.{part_answer_of, with_next, part_refusal, part_to, part_by}
use Rattle.sheet.specs.declared.Answer.{Answer}
use Rattle.sheet_texts.proofs.Only.{Only, only_found, then_only, pure_only, refuse_only}
use Rattle.readings_fit.specs.Reads.{ReadingsFit}
use Rattle.readings_fit.proofs.Manners.{sheet_only}

abbrev Fine : List Rule × Unit {0} → Type 0
Fine r = records_fit (records r.0) ≡ true

unbroken_only : (l : List Rule × Unit {0}) → Fine l → (b : Break) → Only (unbroken l b) Fine
unbroken_only l p None = pure_only l p
unbroken_only l p (Some r) = refuse_only (number r.reason) r.place

judged_only : (m : Manner) → Only (judged_rules m) Fine
unfolding judged_rules
judged_only m = then_only (sheet_only m) (λ l p. unbroken_only l p (judged_by m (rules_break l.0)))

-- ---- a text

stored_fits : (p n w : ℕ) (t : Bool) (rs : List (List ℤ)) → records_fit rs ≡ true →
    1 ≤ (if t then refusal no_room p else (answer_of 0 0 (length rs) w, rs)).0.records →
    records_fit (if t then refusal no_room p else (answer_of 0 0 (length rs) w, rs)).1 ≡ true
stored_fits p n w true rs f h = absurd (omega (arith, h))
stored_fits p n w false rs f h = f

text_fits : (m : Manner) (s : List ℕ) (p n : ℕ) → 1 ≤ (text_of m s p n).0.records → records_fit (text_of m s p n).1 ≡ true
unfolding text_of
text_fits m s p n = go (judged_rules m s p) (λ r j e. only_found (judged_only m) e)
  where
    go : (x : Read (List Rule × Unit {0})) → ((r : List Rule × Unit {0}) (j : ℕ) → x ≡ got r j → Fine r) →
        1 ≤ (judged_text p n x).0.records → records_fit (judged_text p n x).1 ≡ true
    go (got r j) f h = stored_fits p n (warnings r.0) (ltb (n / 16) (length (records r.0))) (records r.0) (f r j refl) h
    go none f h = absurd (omega (arith, h))
    go (refused k q) f h = absurd (omega (arith, h))

-- ---- a sheet and a part

sheet_fits : (m : Manner) (s : List ℕ) (n : ℕ) → 1 ≤ (sheet_by m s n).0.records → records_fit (sheet_by m s n).1 ≡ true
unfolding sheet_by
sheet_fits m s n = go (ltb 4096 (length s))
  where
    go : (t : Bool) → 1 ≤ (if t then refusal too_long 0 else text_of m s 0 n).0.records →
        records_fit (if t then refusal too_long 0 else text_of m s 0 n).1 ≡ true
    go true h = absurd (omega (arith, h))
    go false h = text_fits m s 0 n h

next_records : (s : List ℕ) (e : ℕ) (a : Answer) → (with_next s e a).records ≡ a.records
unfolding with_next
next_records s e a = go (ltb e (length s))
  where
    go : (t : Bool) → (if t then part_answer_of a (suc e) false else part_answer_of a 0 true).records ≡ a.records
    go true = refl
    go false = refl

part_to_fits : (m : Manner) (s : List ℕ) (p n e : ℕ) → 1 ≤ (part_to m s p n e).0.records → records_fit (part_to m s p n e).1 ≡ true
part_to_fits m s p n e h = let same = next_records s e (text_of m (take e s) p n).0 in text_fits m (take e s) p n (omega (arith, h, same))

part_fits : (m : Manner) (s : List ℕ) (p n : ℕ) → 1 ≤ (part_by m s p n).0.records → records_fit (part_by m s p n).1 ≡ true
unfolding part_by
part_fits m s p n = go (ltb 4096 (length s)) (not (begins s p))
  where
    go : (t u : Bool) → 1 ≤ (if t then part_refusal too_long else if u then part_refusal no_part else part_to m s p n (part_end s p)).0.records →
        records_fit (if t then part_refusal too_long else if u then part_refusal no_part else part_to m s p n (part_end s p)).1 ≡ true
    go true u h = absurd (omega (arith, h))
    go false true h = absurd (omega (arith, h))
    go false false h = part_to_fits m s p n (part_end s p) h

pub readings_fit : ReadingsFit
readings_fit =
    record {
      reading_fits = λ m s i {r} {j} e. only_found (sheet_only m) e;
      sheet_fits = sheet_fits;
      part_fits = part_fits;
    }
