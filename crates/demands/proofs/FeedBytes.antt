-- Reading a feed into tables of bytes is reading it into tables of words: the same numbers, the bytes of their words, and every byte after them unchanged.
use Prim.Native.Nat.{ℕ, ◌*◌, ◌-◌, ◌/◌, ◌<◌}
use mathlib.Core.List.{List, [], ◌∷◌, ◌++◌}
use mathlib.Core.Path.{◌≡◌, refl}
use native.Mathlib.Omega.{arith}
use lib.Dec.{ltb}
use lib.IntN.{ℤ}
use lib.ListN.{length, length-append}
use Rattle.lent_slots.specs.Bytes.{record_bytes}
use Rattle.lent_slots.proofs.Stores.{length_bytes}
use Rattle.lent_slots.proofs.Cells.{Sixteen, sixteen_append}
use Rattle.sheet.specs.Sheets.{sheet_of, words_in}
use Rattle.names.specs.declared.Manner.TheVariants.{First}
use Rattle.sheet.proofs.Readings.{sheet_held}
use Rattle.feed.specs.Lines.{lines}
use Rattle.feed.specs.Feeds.{Reading, readings, answers_of, records_of, feed_answer_of, FeedReading, all_of, few_places, feed_of, feed_reading, feed_reading_bytes}
use Rattle.feed.proofs.Readings.{feed_fits}
use Rattle.names.proofs.Laws.{either}
use Rattle.demands.proofs.TogetherBytes.{Each, laid_bytes, each_sixteen}

-- ---- an answer has 4 words, a record 16

answers_four : (rs : List Reading) → Each 4 (answers_of rs)
answers_four [] = tt
answers_four (r ∷ rs) = (refl, answers_four rs)

records_sixteen : (ls : List (List ℕ)) (n : ℕ) → Sixteen (records_of (readings ls n))
unfolding readings
records_sixteen [] n = tt
records_sixteen (l ∷ ls) n =
    let m = n - length (sheet_of l n).1 * 16 in
    sixteen_append (sheet_of l n).1 (records_of (readings ls m)) (sheet_held First l n).long (records_sixteen ls m)

abbrev Whole : FeedReading → Type 0
Whole r = Each 4 r.1.0 × Sixteen r.1.1

whole : (s : List ℕ) (places n : ℕ) → Whole (feed_of s places n)
unfolding feed_of
whole s places n =
    either Whole (ltb places (length (lines s))) (feed_answer_of few_places 0 0, ([], [])) (all_of (readings (lines s) n))
    (tt, tt)
    (answers_four (readings (lines s) n), records_sixteen (lines s) n)

-- ---- tables of bytes that are the bytes of tables of p answers and of m records, and fewer than one's after them

module _ (u : List ℤ) (past : List ℕ) (p : ℕ) (d : length u ≡ p * 4) (g : length past < 16) (w : List ℤ) (rest : List ℕ) (m : ℕ) (e : length w ≡ m * 16) (h : length rest < 64) where
  places : length (record_bytes u ++ past) / 16 ≡ length u / 4
  places = rw (length-append, length_bytes u) (omega arith)

  room : words_in (length (record_bytes w ++ rest)) ≡ length w
  room = rw (length-append, length_bytes w) (omega arith)

  -- the same numbers, the bytes of both tables of words afterwards, and the same bytes after them
  pub feed_as_words : (s : List ℕ) → feed_reading_bytes s (record_bytes u ++ past) (record_bytes w ++ rest) ≡ (
    (feed_reading s u w).0,
    (
      record_bytes
          (feed_reading s u w).1.0 ++ past,
      record_bytes (feed_reading s u w).1.1 ++ rest,
    ),
  )
  unfolding feed_reading_bytes feed_reading
  feed_as_words s =
      let r = feed_of s (length u / 4) (length w) in
      let f = feed_fits s (length u / 4) (length w) in
      let q = whole s (length u / 4) (length w) in
      rw (places, room, laid_bytes past 4 r.1.0 u 0 q.0 (omega (arith, f.answers)), laid_bytes rest 16 r.1.1 w 0 (each_sixteen r.1.1 q.1) (omega (arith, f.records)))
