-- Reading into a table of bytes is reading into a table of words: the same numbers, the bytes of its words, and every byte after them unchanged.
use Prim.Native.Nat.{ℕ, zero, suc, ◌+◌, ◌*◌, ◌≤◌, ◌<◌}
use mathlib.Core.List.{List, [], ◌∷◌, ◌++◌}
use mathlib.Core.Path.{◌≡◌, refl, sym, ap, ◌∙◌}
use native.Mathlib.Omega.{arith}
use native.Mathlib.Nat.{suc-mul, mul_assoc, mul-le-mul_right, le_trans}
use lib.IntN.{ℤ}
use lib.ListN.{length, set, length-append, length-set}
use lib.Seq.{sets, length-sets}
use Rattle.names.specs.declared.Manner.{Manner}
use Rattle.lent_slots.specs.Bytes.{little_endian, word_bytes, record_bytes}
use Rattle.lent_slots.proofs.Stores.{length_bytes}
use Rattle.lent_slots.proofs.Cells.{Sixteen}
use Rattle.lent_slots.specs.Tables.{Layout, as_bytes, laid}
use Rattle.sheet.specs.Sheets.{written_as, sheet_by, sheet_reading_by, words_in, sheet_reading_bytes_by}
use Rattle.sheet.specs.PartReadings.{part_by, part_reading_by, part_reading_bytes_by}
use Rattle.sheet.proofs.Readings.{part_held, sheet_held}
use Rattle.demands.specs.Bytes.{BytesOfWords}

-- c words to a slot of a table of words, and their bytes
abbrev in_words : ℕ → Layout ℤ
in_words c = record { cells = λ r. r; width = c }

abbrev in_bytes : ℕ → Layout ℕ
in_bytes c = record { cells = record_bytes; width = c * 4 }

-- each of these has c words
abbrev pub Each : ℕ → List (List ℤ) → Type 0
Each c [] = Unit {0}
Each c (r ∷ rs) = (length r ≡ c) × Each c rs

module _ (rest : List ℕ) where
  -- a word's bytes stored in the bytes of words
  word_bytes_lem : (w : List ℤ) (i : ℕ) (z : ℤ) → i < length w → sets (record_bytes w ++ rest) (i * 4) (word_bytes z) ≡ record_bytes (set w i z) ++ rest
  unfolding record_bytes little_endian
  word_bytes_lem [] i z h = absurd (omega arith)
  word_bytes_lem (v ∷ w) zero z h = refl
  word_bytes_lem (v ∷ w) (suc i) z h =
      let e : suc i * 4 ≡ suc (suc (suc (suc (i * 4)))) = omega arith in
      ap (λ (n : ℕ). sets (record_bytes (v ∷ w) ++ rest) n (word_bytes z)) e ∙ ap (λ (l : List ℕ). word_bytes v ++ l) (word_bytes_lem w i z (omega arith))

  -- so a record's
  record_bytes_lem : (r w : List ℤ) (i : ℕ) → i + length r ≤ length w → sets (record_bytes w ++ rest) (i * 4) (record_bytes r) ≡ record_bytes (sets w i r) ++ rest
  unfolding record_bytes little_endian
  record_bytes_lem [] w i h = refl
  record_bytes_lem (z ∷ r) w i h =
      let e : suc (suc (suc (suc (i * 4)))) ≡ suc i * 4 = omega arith in
      ap (λ (l : List ℕ). sets l (suc (suc (suc (suc (i * 4))))) (record_bytes r)) (word_bytes_lem w i z (omega arith))
      ∙ ap (λ (n : ℕ). sets (record_bytes (set w i z) ++ rest) n (record_bytes r)) e
      ∙ record_bytes_lem r (set w i z) (suc i) (rw length-set (omega arith))

  -- and those of many, of c words each, that have room
  pub laid_bytes : (c : ℕ) (rs : List (List ℤ)) (w : List ℤ) (k : ℕ) → Each c rs → (k + length rs) * c ≤ length w →
      laid (in_bytes c) (record_bytes w ++ rest) k rs ≡ record_bytes (laid (in_words c) w k rs) ++ rest
  unfolding laid
  laid_bytes c [] w k h l = refl
  laid_bytes c (r ∷ rs) w k h l =
      let e : k + suc (length rs) ≡ suc k + length rs = omega arith in
      let room : suc k * c ≤ length w = le_trans (mul-le-mul_right c (omega arith)) l in
      let stored : sets (record_bytes w ++ rest) (k * c * 4) (record_bytes r) ≡ record_bytes (sets w (k * c) r) ++ rest = record_bytes_lem r w (k * c) (omega (arith, h.0, suc-mul k c)) in
      let later = laid_bytes c rs (sets w (k * c) r) (suc k) h.1 (rw (length-sets, ← e) l) in
      ap (λ (n : ℕ). laid (in_bytes c) (sets (record_bytes w ++ rest) n (record_bytes r)) (suc k) rs) (sym (mul_assoc k c 4))
      ∙ ap (λ (t : List ℕ). laid (in_bytes c) t (suc k) rs) stored
      ∙ later

-- a record has 16 words
pub each_sixteen : (rs : List (List ℤ)) → Sixteen rs → Each 16 rs
each_sixteen [] h = tt
each_sixteen (r ∷ rs) h = (h.0, each_sixteen rs h.1)

-- a table of bytes that are the bytes of a table of k records, and fewer than a record's after them
module _ (w : List ℤ) (rest : List ℕ) (k : ℕ) (e : length w ≡ k * 16) (h : length rest < 64) where
  -- has the same room
  room : words_in (length (record_bytes w ++ rest)) ≡ length w
  room = rw (length-append, length_bytes w) (omega arith)

  -- after a sheet is read: the same numbers, the bytes of the table of words afterwards, and the same bytes after them
  pub sheet_as_words : (m : Manner) (s : List ℕ) → sheet_reading_bytes_by m s (record_bytes w ++ rest) ≡ ((sheet_reading_by m s w).0, record_bytes (sheet_reading_by m s w).1 ++ rest)
  unfolding sheet_reading_bytes_by sheet_reading_by
  sheet_as_words m s =
      let t : List ℕ = record_bytes w ++ rest in
      let held = sheet_held m s (length w) in
      let records = (sheet_by m s (length w)).1 in
      let laid_so = laid_bytes rest 16 records w 0 (each_sixteen records held.long) (omega (arith, held.room)) in
      ap (λ (n : ℕ). written_as as_bytes t (sheet_by m s n)) room ∙ ap (λ (l : List ℕ). ((sheet_by m s (length w)).0, l)) laid_so

  -- and after a part is
  pub part_as_words : (m : Manner) (s : List ℕ) (p : ℕ) → part_reading_bytes_by m s p (record_bytes w ++ rest) ≡ ((part_reading_by m s p w).0, record_bytes (part_reading_by m s p w).1 ++ rest)
  unfolding part_reading_bytes_by part_reading_by
  part_as_words m s p =
      let t : List ℕ = record_bytes w ++ rest in
      let held = part_held m s p (length w) in
      let records = (part_by m s p (length w)).1 in
      let laid_so = laid_bytes rest 16 records w 0 (each_sixteen records held.long) (omega (arith, held.room)) in
      ap (λ (n : ℕ). written_as as_bytes t (part_by m s p n)) room ∙ ap (λ (l : List ℕ). ((part_by m s p (length w)).0, l)) laid_so

-- so of every table of bytes (`bytes_of_words`)
module _ {t : List ℕ} (b : BytesOfWords t) (s : List ℕ) where
  pub sheet_in_bytes : (m : Manner) → sheet_reading_bytes_by m s t ≡ ((sheet_reading_by m s b.words).0, record_bytes (sheet_reading_by m s b.words).1 ++ b.rest)
  sheet_in_bytes m = ap (sheet_reading_bytes_by m s) (sym b.same) ∙ sheet_as_words b.words b.rest b.records b.whole b.short m s

  pub part_in_bytes : (m : Manner) (p : ℕ) → part_reading_bytes_by m s p t ≡ ((part_reading_by m s p b.words).0, record_bytes (part_reading_by m s p b.words).1 ++ b.rest)
  part_in_bytes m p = ap (part_reading_bytes_by m s p) (sym b.same) ∙ part_as_words b.words b.rest b.records b.whole b.short m s p
