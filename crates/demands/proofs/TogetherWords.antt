-- The table after an accepted sheet is read: the words that reading each of its parts writes, one part after another, and the rest of the table as it was.
use Prim.Native.Nat.{ℕ, ◌*◌, ◌≤◌}
use mathlib.Core.List.{List, [], ◌∷◌, ◌++◌, append_assoc}
use mathlib.Core.Path.{◌≡◌, refl, sym, ap, ◌∙◌}
use native.Mathlib.Omega.{arith}
use native.Mathlib.Nat.{div-mul-le_self}
use lib.IntN.{ℤ}
use lib.ListN.{length, take, drop}
use Rattle.names.specs.declared.Manner.{Manner}
use Rattle.lent_slots.specs.Tables.{as_words, overlay}
use Rattle.lent_slots.proofs.Keeps.{words_wide}
use Rattle.lent_slots.proofs.Cells.{cells_of, front_split, front_taken}
use Rattle.sheet.specs.Sheets.{sheet_by, sheet_reading_by}
use Rattle.parts.specs.Parts.{places}
use Rattle.sheet.specs.PartReadings.{part_by, part_reading_by}
use Rattle.sheet.proofs.Readings.{Held, part_held, sheet_held}
use Rattle.demands.specs.Together.{in_order}
use Rattle.demands.proofs.Together.{together}

-- ---- the words of records

-- those of one list after another
words_append : (a b : List (List ℤ)) → cells_of as_words (a ++ b) ≡ cells_of as_words a ++ cells_of as_words b
words_append [] b = refl
words_append (r ∷ a) b = rw (words_append a b) (sym (append_assoc r (cells_of as_words a) (cells_of as_words b)))

-- ---- calls

module _ (t : List ℤ) {count : ℕ} (rs : List (List ℤ)) (h : Held (length t) count rs) where
  -- the table has room for such records
  held_room : length rs * 16 ≤ length t
  held_room = omega (arith, div-mul-le_self (length t) 16)

  -- the table after they are written over it
  held_table : overlay t 0 rs ≡ cells_of as_words rs ++ drop (count * 16) t
  held_table = rw h.many (front_split as_words words_wide rs t h.long held_room)

  -- their words in it
  held_words : take (count * 16) (overlay t 0 rs) ≡ cells_of as_words rs
  held_words = rw h.many (front_taken as_words words_wide rs t h.long held_room)

module _ (m : Manner) (s : List ℕ) (t : List ℤ) where
  -- the words that reading the part at p writes
  abbrev pub part_words : ℕ → List ℤ
  part_words p = take ((part_reading_by m s p t).0.records * 16) (part_reading_by m s p t).1

  -- those of all parts are the words of their records
  all_words : (ps : List ℕ) → cells_of as_words (in_order (λ p. (part_by m s p (length t)).1) ps) ≡ in_order part_words ps
  unfolding part_reading_by
  all_words [] = refl
  all_words (p ∷ ps) =
      rw (
        words_append (part_by m s p (length t)).1 (in_order (λ q. (part_by m s q (length t)).1) ps),
        all_words ps,
        held_words t (part_by m s p (length t)).1
            (part_held m s p (length t)),
      )

  -- an accepted sheet leaves the words that its parts write, one part after another, and the rest of the table as it was
  pub calls_words : length s ≤ 4096 → (sheet_reading_by m s t).0.number ≡ 0 → (sheet_reading_by m s t).1 ≡ in_order part_words (places s) ++ drop ((sheet_reading_by m s t).0.records * 16) t
  unfolding sheet_reading_by
  calls_words h e =
      held_table t (sheet_by m s (length t)).1 (sheet_held m s (length t))
      ∙ ap (λ (w : List ℤ). w ++ drop ((sheet_by m s (length t)).0.records * 16) t) (ap (cells_of as_words) ((together m s (length t) h).made e) ∙ all_words (places s))
