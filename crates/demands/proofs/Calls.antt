-- Demand 3, of the calls: with a table of words, with one of bytes, and from C.
use Prim.Native.Nat.{ℕ, suc, ◌≤◌}
use mathlib.Core.List.{List, ◌++◌}
use mathlib.Core.Bool.{Bool, true, false}
use mathlib.Core.Logic.{◌≢◌}
use mathlib.Core.Path.{◌≡◌, refl, sym, ap, ◌∙◌, subst}
use lib.Dec.{eqb}
use lib.IntN.{ℤ}
use lib.ListN.{length}
use Rattle.names.specs.declared.Manner.{Manner}
use Rattle.lent_slots.specs.Tables.{as_words, as_bytes}
use Rattle.parts.specs.Parts.{begins, places}
use Rattle.sheet.specs.Sheets.{written_as, sheet_reading_by, words_in, sheet_reading_bytes_by}
use Rattle.sheet.specs.PartReadings.{part_answer_of, part_by, part_reading_by, part_reading_bytes_by}
use Rattle.sheet.specs.declared.PartAnswer.{PartAnswer}
use Rattle.c_calls.specs.Calls.{flag, sheet_call_by, part_call_by}
use Rattle.demands.specs.Alone.{part_alone}
use Rattle.demands.specs.ByC.{sheet_by_c, part_by_c}
use Rattle.demands.specs.Exchanged.{Exchanged, UnchangedCall}
use Rattle.demands.specs.Together.{TogetherCalls, walk}
use Rattle.demands.proofs.Alone.{alone}
use Rattle.demands.proofs.Exchange.{exchange_called}
use Rattle.demands.proofs.TogetherCalls.{together_called, called_places}

-- ---- what the calls give: what the sheet or the part comes to, with its records written over the table

words_part : (m : Manner) (t : List ℤ) (n : ℕ) → length t ≡ n → (s : List ℕ) (p : ℕ) → part_reading_by m s p t ≡ written_as as_words t (part_by m s p n)
unfolding part_reading_by
words_part m t n l s p = ap (λ (k : ℕ). written_as as_words t (part_by m s p k)) l

bytes_part : (m : Manner) (t : List ℕ) (n : ℕ) → length t ≡ n → (s : List ℕ) (p : ℕ) → part_reading_bytes_by m s p t ≡ written_as as_bytes t (part_by m s p (words_in n))
unfolding part_reading_bytes_by
bytes_part m t n l s p = ap (λ (k : ℕ). written_as as_bytes t (part_by m s p (words_in k))) l

-- from C as with bytes
sheet_by_c_lem : (m : Manner) (s t : List ℕ) → sheet_by_c m s t ≡ sheet_reading_bytes_by m s t
unfolding sheet_call_by
sheet_by_c_lem m s t = refl

part_by_c_lem : (m : Manner) (s : List ℕ) (p : ℕ) (t : List ℕ) → part_by_c m s p t ≡ part_reading_bytes_by m s p t
unfolding part_call_by
part_by_c_lem m s p t =
    let r = part_reading_bytes_by m s p t in
    ap (λ (b : Bool). (part_answer_of (record { number = r.0.number; place = r.0.place; records = r.0.records; warnings = r.0.warnings }) r.0.next b, r.1)) (back r.0.last)
  where
    back : (b : Bool) → eqb (flag b) 1 ≡ b
    back true = refl
    back false = refl

-- ---- a part is answered as its bytes alone are

module _ (m : Manner) (s : List ℕ) (p : ℕ) (h : length s ≤ 4096) (b : begins s p ≡ true) where
  pub alone_words : (t : List ℤ) → part_reading_by m s p t ≡ written_as as_words t (part_alone m s p (length t))
  alone_words t = words_part m t (length t) refl s p ∙ ap (written_as as_words t) (alone m s p (length t) h b)

  pub alone_bytes : (t : List ℕ) → part_reading_bytes_by m s p t ≡ written_as as_bytes t (part_alone m s p (words_in (length t)))
  alone_bytes t = bytes_part m t (length t) refl s p ∙ ap (written_as as_bytes t) (alone m s p (words_in (length t)) h b)

  pub alone_c : (t : List ℕ) → part_by_c m s p t ≡ written_as as_bytes t (part_alone m s p (words_in (length t)))
  alone_c t = part_by_c_lem m s p t ∙ alone_bytes t

-- ---- one part is exchanged: every other part, read with a table as long as before

module _ (m : Manner) {a x y b : List ℕ} (z : Exchanged a x y b) (p : ℕ) (k : begins (a ++ (x ++ b)) p ≡ true) (e : p ≢ length a) where
  pub exchange_words : (t : List ℤ) (n : ℕ) → length t ≡ n → UnchangedCall m as_words (part_reading_by m) n t a x y b p
  exchange_words t n l = exchange_called z m as_words (part_reading_by m) n t (words_part m t n l) p k e

  pub exchange_bytes : (t : List ℕ) (n : ℕ) → length t ≡ n → UnchangedCall m as_bytes (part_reading_bytes_by m) (words_in n) t a x y b p
  exchange_bytes t n l = exchange_called z m as_bytes (part_reading_bytes_by m) (words_in n) t (bytes_part m t n l) p k e

  pub exchange_c : (t : List ℕ) (n : ℕ) → length t ≡ n → UnchangedCall m as_bytes (part_by_c m) (words_in n) t a x y b p
  exchange_c t n l = exchange_called z m as_bytes (part_by_c m) (words_in n) t (λ s q. part_by_c_lem m s q t ∙ bytes_part m t n l s q) p k e

-- ---- the sheet and its parts, and where the parts are

module _ (m : Manner) (s : List ℕ) (h : length s ≤ 4096) where
  pub together_words : (t : List ℤ) → TogetherCalls as_words (length t) t (sheet_reading_by m s t) (λ p. part_reading_by m s p t) (λ p. (part_by m s p (length t)).1) (places s)
  unfolding sheet_reading_by part_reading_by
  together_words t = together_called as_words m s (length t) t h

  pub together_bytes : (t : List ℕ) → TogetherCalls as_bytes (words_in (length t)) t (sheet_reading_bytes_by m s t) (λ p. part_reading_bytes_by m s p t) (λ p. (part_by m s p (words_in (length t))).1) (places s)
  unfolding sheet_reading_bytes_by part_reading_bytes_by
  together_bytes t = together_called as_bytes m s (words_in (length t)) t h

  pub together_c : (t : List ℕ) → TogetherCalls as_bytes (words_in (length t)) t (sheet_by_c m s t) (λ p. part_by_c m s p t) (λ p. (part_by m s p (words_in (length t))).1) (places s)
  together_c t =
      subst (λ (part : ℕ → PartAnswer × List ℕ). TogetherCalls as_bytes (words_in (length t)) t (sheet_by_c m s t) part (λ p. (part_by m s p (words_in (length t))).1)
      (places s)) (λ i p. sym (part_by_c_lem m s p t) i)
      (rw (sheet_by_c_lem m s t) (together_bytes t))

  pub places_words : (t : List ℤ) → walk (λ p. (part_reading_by m s p t).0) (suc (length s)) 0 ≡ places s
  unfolding part_reading_by
  places_words t = called_places m s (length t) h

  pub places_bytes : (t : List ℕ) → walk (λ p. (part_reading_bytes_by m s p t).0) (suc (length s)) 0 ≡ places s
  unfolding part_reading_bytes_by
  places_bytes t = called_places m s (words_in (length t)) h

  pub places_c : (t : List ℕ) → walk (λ p. (part_by_c m s p t).0) (suc (length s)) 0 ≡ places s
  places_c t = ap (λ (part : ℕ → PartAnswer). walk part (suc (length s)) 0) (λ i p. (part_by_c_lem m s p t i).0) ∙ places_bytes t
