-- The calls: reading a sheet, and reading each of its parts with the same table.
use Prim.Native.Nat.{ℕ, zero, suc, ◌+◌, ◌≤◌, ◌<◌}
use mathlib.Core.List.{List, [], ◌∷◌, ◌++◌}
use mathlib.Core.Bool.{true}
use mathlib.Core.Path.{◌≡◌, refl, sym, ap, ◌∙◌}
use native.Mathlib.Omega.{arith}
use native.Mathlib.Nat.{add-zero}
use native.Mathlib.Decide.{dec_lt}
use lib.IntN.{ℤ}
use lib.ListN.{length}
use Rattle.names.specs.declared.Manner.{Manner}
use Rattle.lent_slots.specs.Tables.{Layout, laid}
use Rattle.parts.specs.Parts.{part_end, begins, places}
use Rattle.sheet.specs.Sheets.{written_as, sheet_by}
use Rattle.sheet.specs.PartReadings.{part_by}
use Rattle.parts.proofs.Laws.{part_begin, begins_first}
use Rattle.parts.proofs.PartLaws.{begins_fits, begins_next}
use Rattle.demands.specs.Together.{in_order, written_over, TogetherCalls, walk}
use Rattle.demands.proofs.Places.{places_from, places_all, places_next, places_none}
use Rattle.demands.proofs.Together.{part_more, part_last, together}

module _ {A : Type 0} (d : Layout A) where
  -- one list of records after another
  laid_append : (a b : List (List ℤ)) (t : List A) (k : ℕ) → laid d (laid d t k a) (k + length a) b ≡ laid d t k (a ++ b)
  unfolding laid
  laid_append [] b t k = ap (λ (j : ℕ). laid d t j b) (add-zero k)
  laid_append (r ∷ a) b t k =
      let e : k + suc (length a) ≡ suc k + length a = omega arith in
      rw e (laid_append a b _ (suc k))

  -- one after another is all of them in order
  written_all : (f : ℕ → List (List ℤ)) (t : List A) (k : ℕ) (ps : List ℕ) → written_over d f t k ps ≡ laid d t k (in_order f ps)
  unfolding laid
  written_all f t k [] = refl
  written_all f t k (p ∷ ps) = written_all f (laid d t k (f p)) (k + length (f p)) ps ∙ laid_append (f p) (in_order f ps) t k

  -- a sheet and its parts, called with a table that has room for n words
  pub together_called : (m : Manner) (s : List ℕ) (n : ℕ) (t : List A) → length s ≤ 4096 →
      TogetherCalls d n t (written_as d t (sheet_by m s n)) (λ p. written_as d t (part_by m s p n)) (λ p. (part_by m s p n).1) (places s)
  together_called m s n t h =
      let w = together m s n h in
      record {
        accepted = w.accepted;
        every = w.every;
        holds = w.holds;
        counted = w.counted;
        warned = w.warned;
        made = λ e. ap (laid d t 0) (w.made e) ∙ sym (written_all (λ p. (part_by m s p n).1) t 0 (places s));
        parts = λ p. refl;
      }

-- ---- the places of all parts

-- from a part on, by the bytes that are left
walk_from : (m : Manner) (k : ℕ) (s : List ℕ) (p n : ℕ) → length s ≤ 4096 → begins s p ≡ true → length s < p + k → walk (λ q. (part_by m s q n).0) k p ≡ places_from s p
walk_from m zero s p n h b l = absurd (omega (arith, begins_fits s p b))
walk_from m (suc k) s p n h b l = rw (places_next s p b) (go (dec_lt (part_end s p) (length s)) (walk_from m k s (suc (part_end s p)) n h))
  where
    go : Dec (part_end s p < length s) → (begins s (suc (part_end s p)) ≡ true → length s < suc (part_end s p) + k →
        walk (λ q. (part_by m s q n).0) k (suc (part_end s p)) ≡ places_from s (suc (part_end s p))) →
        walk (λ q. (part_by m s q n).0) (suc k) p ≡ p ∷ places_from s (suc (part_end s p))
    go (yes e) ih = rw (part_more m s p n h b e, ih (begins_next s p b e) (omega (arith, part_begin s p)))
    go (no e) ih = rw (part_last m s p n h b (omega arith), places_none s (suc (part_end s p)) (omega arith))

-- the calls that begin at 0 and go on where each says that the next part is, until one says that it was the last, read all parts of the sheet
pub called_places : (m : Manner) (s : List ℕ) (n : ℕ) → length s ≤ 4096 → walk (λ p. (part_by m s p n).0) (suc (length s)) 0 ≡ places s
called_places m s n h = walk_from m (suc (length s)) s 0 n h (sym (begins_first s 0 refl)) (omega arith) ∙ sym (places_all s)
