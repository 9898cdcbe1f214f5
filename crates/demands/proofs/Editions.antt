-- What the first edition accepts, the second accepts with the same records and warnings (specs/Editions.antt).
use Rattle.std.specs.Prelude.{if◌then◌else◌}
use Prim.Native.Nat.{ℕ}
use mathlib.Core.Bool.{Bool, true, false, not}
use mathlib.Core.List.{List, []}
use mathlib.Core.Path.{◌≡◌, refl, ap}
use native.Mathlib.Omega.{arith}
use borrow.Author.Tests.{ne_eqb}
use lib.Dec.{ltb}
use lib.IntN.{ℤ}
use lib.ListN.{length, take, get_or}
use Rattle.names.specs.Read.{Read, got, none, refused}
use Rattle.names.specs.declared.Manner.TheVariants.{First, Second}
use Rattle.names.proofs.Local.{Near}
use Rattle.lent_slots.specs.Tables.{as_bytes}
use Rattle.rules.specs.Rules.{Rule}
use Rattle.sheet.specs.Sheets.{refusal, judged_text, text_of, sheet_by, written, written_as, words_in, sheet_reading, sheet_reading_by, sheet_reading_bytes, sheet_reading_bytes_by}
use Rattle.parts.specs.Parts.{begins, part_end}
use Rattle.sheet.specs.PartReadings.{with_next, part_to, part_refusal, part_by, part_reading, part_reading_by, part_reading_bytes, part_reading_bytes_by}
use Rattle.calls.specs.Editions.{edition_of, sheet_reading_in, sheet_reading_bytes_in, part_reading_in, part_reading_bytes_in}
use Rattle.sheet.specs.declared.Answer.{Answer}
use Rattle.sheet.specs.declared.PartAnswer.{PartAnswer}
use Rattle.text_rules.proofs.Moves.{rules_ended}
use Rattle.c_calls.specs.Calls.{sheet_numbers, part_numbers, sheet_call, sheet_call_by, sheet_call_in, part_call, part_call_by, part_call_in}
use Rattle.demands.specs.Editions.{SheetKept, PartKept, SheetNever8, PartNever8, SheetCalls, PartCalls}
use Rattle.demands.proofs.Judged.{first_rules, second_rules}
use Rattle.demands.proofs.Numbers.{next_same, sheet_number, part_number}
use Rattle.demands.proofs.Wider.{Wide, same, lost, Never}
use Rattle.demands.proofs.WiderRules.{rules_wide}

-- a text
text_kept : (s : List ℕ) (p n : ℕ) → (text_of First s p n).0.number ≡ 0 → text_of Second s p n ≡ text_of First s p n
unfolding text_of
text_kept s p n = rw (first_rules s p, second_rules s p) (go _ (rules_wide s p) ((rules_ended First []).near s p (omega arith)))
  where
    go : (l : ℕ) {x y : Read (List Rule × Unit {0})} → Wide Never x y → Near First l x → (judged_text p n x).0.number ≡ 0 → judged_text p n y ≡ judged_text p n x
    go l same h e = refl
    go l (lost {x = got r j} d) h e = absurd d
    go l (lost {x = none} d) h e = absurd d
    go l (lost {x = refused k q} d) h e = absurd (omega (arith, h, e))

-- a sheet
pub sheet_kept : SheetKept
unfolding sheet_by
sheet_kept s n = go (ltb 4096 (length s))
  where
    go : (b : Bool) → (if b then refusal 1 0 else text_of First s 0 n).0.number ≡ 0 → (if b then refusal 1 0 else text_of Second s 0 n) ≡ (if b then refusal 1 0 else text_of First s 0 n)
    go true e = refl
    go false e = text_kept s 0 n e

-- a part
pub part_kept : PartKept
unfolding part_by
part_kept s p n = go (ltb 4096 (length s)) (not (begins s p))
  where
    k : ℕ
    k = part_end s p

    go : (b c : Bool) → (if b then part_refusal 1 else if c then part_refusal 2 else part_to First s p n k).0.number ≡ 0 →
        (if b then part_refusal 1 else if c then part_refusal 2 else part_to Second s p n k) ≡ (if b then part_refusal 1 else if c then part_refusal 2 else part_to First s p n k)
    go true c e = refl
    go false true e = refl
    go false false e = ap (λ (r : Answer × List (List ℤ)). (with_next s k r.0, r.1)) (text_kept (take k s) p n (rw (next_same s k (text_of First (take k s) p n).0) at e))

-- in edition 2 the number 8 is never given
pub sheet_never : SheetNever8
sheet_never s n = (sheet_number Second s n).1

pub part_never : PartNever8
part_never s p n = (part_number Second s p n).1

-- ---- the calls

module _ (s : List ℕ) where
  pub sheet_calls : (t : List ℤ) → SheetCalls t (sheet_reading s t) (λ edition. sheet_reading_in edition s t)
  unfolding sheet_reading_in edition_of sheet_reading_by
  sheet_calls t =
      record {
        first = refl;
        second = λ e. ap (written t) (sheet_kept s (length t) e);
        never = sheet_never s (length t);
        unknown = λ edition a b. rw
            (ne_eqb edition 1 a, ne_eqb edition 2 b);
      }

  pub sheet_bytes_calls : (t : List ℕ) → SheetCalls t (sheet_reading_bytes s t) (λ edition. sheet_reading_bytes_in edition s t)
  unfolding sheet_reading_bytes_in edition_of sheet_reading_bytes_by
  sheet_bytes_calls t =
      record {
        first = refl;
        second = λ e. ap (written_as as_bytes t) (sheet_kept s (words_in (length t)) e);
        never = sheet_never s (words_in
            (length t));
        unknown = λ edition a b. rw (ne_eqb edition 1 a, ne_eqb edition 2 b);
      }

  module _ (p : ℕ) where
    pub part_calls : (t : List ℤ) → PartCalls t (part_reading s p t) (λ edition. part_reading_in edition s p t)
    unfolding part_reading_in edition_of part_reading_by
    part_calls t =
        record {
          first = refl;
          second = λ e. ap (written t) (part_kept s p (length t) e);
          never = part_never s p (length t);
          unknown = λ edition a b. rw
              (ne_eqb edition 1 a, ne_eqb edition 2 b);
        }

    pub part_bytes_calls : (t : List ℕ) → PartCalls t (part_reading_bytes s p t) (λ edition. part_reading_bytes_in edition s p t)
    unfolding part_reading_bytes_in edition_of part_reading_bytes_by
    part_bytes_calls t =
        record {
          first = refl;
          second = λ e. ap (written_as as_bytes t) (part_kept s p (words_in (length t)) e);
          never = part_never s p (words_in
              (length t));
          unknown = λ edition a b. rw (ne_eqb edition 1 a, ne_eqb edition 2 b);
        }

-- the calls for C: what they say in edition 1, and in edition 2 of what edition 1 accepts, is what those without an edition say
module _ (s t : List ℕ) where
  pub sheet_c_first : sheet_call_in 1 s t ≡ sheet_call s t
  unfolding sheet_call_in sheet_call_by sheet_reading_bytes_in edition_of
  sheet_c_first = refl

  pub sheet_c_second : (sheet_reading_bytes s t).0.number ≡ 0 → sheet_call_in 2 s t ≡ sheet_call s t
  unfolding sheet_call_in sheet_call_by
  sheet_c_second e = ap (λ (r : Answer × List ℕ). (sheet_numbers r.0, r.1)) ((sheet_bytes_calls s t).second e)

  pub part_c_first : (p : ℕ) → part_call_in 1 s p t ≡ part_call s p t
  unfolding part_call_in part_call_by part_reading_bytes_in edition_of
  part_c_first p = refl

  pub part_c_second : (p : ℕ) → (part_reading_bytes s p t).0.number ≡ 0 → part_call_in 2 s p t ≡ part_call s p t
  unfolding part_call_in part_call_by
  part_c_second p e = ap (λ (r : PartAnswer × List ℕ). (part_numbers r.0, r.1)) ((part_bytes_calls s p t).second e)

-- and the number 8 is not among what they say in edition 2
module _ (s t : List ℕ) where
  pub sheet_c_never : get_or (sheet_call_in 2 s t).0 0 0 ≡ 8 → ⊥
  unfolding sheet_call_in
  sheet_c_never = (sheet_bytes_calls s t).never

  pub part_c_never : (p : ℕ) → get_or (part_call_in 2 s p t).0 0 0 ≡ 8 → ⊥
  unfolding part_call_in
  part_c_never p = (part_bytes_calls s p t).never
