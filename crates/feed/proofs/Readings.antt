-- The readings of a feed's lines: what is left of them while they are read, and the tables that hold them.
use Rattle.std.specs.Prelude.{if◌then◌else◌}
use Prim.Native.Nat.{ℕ, suc, ◌+◌, ◌*◌, ◌-◌, ◌/◌, ◌≤◌, ◌<◌}
use mathlib.Core.List.{List, [], ◌∷◌, ◌++◌, append-nil}
use mathlib.Core.Bool.{Bool, true, false}
use mathlib.Core.Path.{◌≡◌, refl, ap, ◌∙◌}
use native.Mathlib.Omega.{arith}
use native.Mathlib.Nat.{zero-add}
use borrow.Author.Tests.{lt-ltb, le-ltb, ltb-false}
use borrow.Author.Rules.{part_to_end}
use borrow.Rule.Slice.PartMut.{mid_of, put_mid, Post-is}
use lib.Dec.{ltb}
use lib.IntN.{ℤ}
use lib.ListN.{length, take, drop, length-append}
use lib.Seq.{drop-length}
use Rattle.lent_slots.specs.Tables.{Layout, as_words, as_bytes, Tables, all_kept}
use Rattle.lent_slots.proofs.Keeps.{all_append}
use Rattle.sheet.specs.Sheets.{sheet_of, words_in}
use Rattle.text_rules.specs.Into.{into}
use Rattle.sheet.specs.declared.Answer.{Answer}
use Rattle.names.specs.declared.Manner.TheVariants.{First}
use Rattle.sheet.proofs.Readings.{sheet_held}
use Rattle.sheet.proofs.Bounds.{sheet_small}
use Rattle.feed.specs.Lines.{lines}
use Rattle.feed.specs.Feeds.{Reading, readings, answer_words, answers_of, records_of, feed_answer_of, FeedReading, all_of, few_places, feed_of, answers_as_words, answers_as_bytes, written_feed}
use Rattle.feed.specs.Into.{Small, free_from, kept_all, answer_kept, answers_kept, line_into, feed_into}
use Rattle.feed.specs.declared.FeedAnswer.{FeedAnswer}
use Rattle.feed.proofs.LineLaws.{Turn, lines_none}
use Rattle.feed.proofs.Slots.{all_laid, all_from, all_each}

-- ---- one line

-- the numbers of its answer are small, and its records have the room that m records leave
pub record Told (m size : ℕ) (a : Answer) : Type 0 where
  pub small : Small a
  pub room : (m + a.records) * 16 ≤ size

pub told : (t : Tables) (m size : ℕ) (l : List ℕ) {a : Answer} {t' : Tables} → m * 16 ≤ size → (a, t') ≡ line_into t m (sheet_of l (size - m * 16)) → Told m size a
told t m size l h e =
    let s = sheet_small First l (size - m * 16) in
    let k = sheet_held First l (size - m * 16) in
    rw (ap (λ (x : Answer × Tables). x.0) e) (record { small = record { place = s.place; records = s.records; warnings = s.warnings }; room = omega (arith, k.many, k.room) })

-- the part of a table from a place on, put back
part_back : {A : Type 0} (t x : List A) (w : ℕ) → w ≤ length t → put_mid w (length t - w) t x ≡ take w t ++ x
part_back t x w h = rw (Post-is w (length t) t h, drop-length t, append-nil x)

-- its records have the room that was left
pub line_room : (l : List ℕ) (n : ℕ) → (sheet_of l n).0.records * 16 ≤ n
line_room l n = let h = sheet_held First l n in omega (arith, h.many, h.room)

-- it is read into what is free of the tables from slot k on
pub line_from : (words : List ℤ) (bytes : List ℕ) (k w b : ℕ) (r : Reading) {a : Answer} {x : List ℤ} {y : List ℕ} →
    (w ≡ free_from (length words) 16 k) × (w ≤ length words) → (b ≡ free_from (length bytes) 64 k) × (b ≤ length bytes) →
    (a, (x, y)) ≡ into (mid_of w (length words - w) words, mid_of b (length bytes - b) bytes) r →
    (a, (put_mid w (length words - w) words x, put_mid b (length bytes - b) bytes y)) ≡ line_into (words, bytes) k r
line_from words bytes k w b r {a} {x} {y} f g e =
    let free : Tables = (mid_of w (length words - w) words, mid_of b (length bytes - b) bytes) in
    let joined : Answer × Tables → Answer × Tables = λ z. (z.0, (take w words ++ z.1.0, take b bytes ++ z.1.1)) in
    let from-slot : joined (into free r) ≡ line_into (words, bytes) k r = rw (
      part_to_end words w,
      part_to_end bytes b,
      all_each r.1 (drop w words, drop b bytes) 0,
      all_each r.1 (words, bytes) k,
      all_from as_words (omega arith) r.1 words k,
      all_from as_bytes (omega arith) r.1 bytes k,
      f.0,
      g.0,
    ) in
    rw (part_back words x w f.1, part_back bytes y b g.1) (ap joined e ∙ from-slot)

-- ---- many lines

-- what lines still to be read come to, after k lines with m records
abbrev pub up_to : Tables → Tables → ℕ → ℕ → List Reading → FeedAnswer × (Tables × Tables)
up_to u t k m rs = (feed_answer_of 0 (k + length rs) (m + length (records_of rs)), (answers_kept u k (answers_of rs), all_kept t m (records_of rs)))

-- at first, all
pub up_begin : (u t : Tables) (s : List ℕ) (size : ℕ) → feed_into u t (all_of (readings (lines s) size)) ≡ up_to u t 0 0 (readings (lines (drop 0 s)) (size - 0 * 16))
up_begin u t s size =
    let rs = readings (lines s) size in
    let e : size - 0 ≡ size = omega arith in
    rw (e, zero-add (length rs), zero-add (length (records_of rs)))

-- at last, none
up_end : (u t : Tables) (k m : ℕ) → up_to u t k m [] ≡ (feed_answer_of 0 k m, (u, t))
unfolding kept_all all_kept
up_end u t k m = let a : k + 0 ≡ k = omega arith in let b : m + 0 ≡ m = omega arith in rw (a, b)

-- a line more
up_more : (u t : Tables) (k m size : ℕ) (l : List ℕ) (ls : List (List ℕ)) →
    let r = sheet_of l (size - m * 16) in
    up_to u t k m (readings (l ∷ ls) (size - m * 16)) ≡ up_to (answer_kept u k (answer_words r.0)) (all_kept t m r.1) (k + 1) (m + r.0.records) (readings ls (size - (m + r.0.records) * 16))
unfolding readings kept_all
up_more u t k m size l ls = let n = size - m * 16 in go (sheet_of l n) (sheet_of l n).0.records (sheet_held First l n).many
  where
    go : (r : Reading) (c : ℕ) → c ≡ length r.1 →
        up_to u t k m (r ∷ readings ls (size - m * 16 - length r.1 * 16)) ≡ up_to (answer_kept u k (answer_words r.0)) (all_kept t m r.1) (k + 1) (m + c) (readings ls (size - (m + c) * 16))
    go r c e =
        let n : size - m * 16 - length r.1 * 16 ≡ size - (m + c) * 16 = omega arith in
        let rs = readings ls (size - (m + c) * 16) in
        let a : k + suc (length rs) ≡ k + 1 + length rs = omega arith in
        let b : m + (length r.1 + length (records_of rs)) ≡ m + c + length (records_of rs) = omega arith in
        let f : k + 1 ≡ suc k = omega arith in
        rw (n, a, length-append r.1 (records_of rs), b, all_append r.1 (records_of rs) t m, f, e)

-- a line is read, and its answer kept
pub up_turn : (u t : Tables) (k m size : ℕ) (s : List ℕ) {p e q : ℕ} {a : Answer} {u' t' : Tables} → Turn s p e q →
    (a, t') ≡ line_into t m (sheet_of (take (e - p) (drop p s)) (size - m * 16)) → u' ≡ answer_kept u k (answer_words a) →
    up_to u t k m (readings (lines (drop p s)) (size - m * 16)) ≡ up_to u' t' (k + 1) (m + a.records) (readings (lines (drop q s)) (size - (m + a.records) * 16))
up_turn u t k m size s {p} {e} {q} {a} {u'} {t'} n f g =
    let l = take (e - p) (drop p s) in
    let r = sheet_of l (size - m * 16) in
    let b : a ≡ r.0 = ap (λ (x : Answer × Tables). x.0) f in
    let c : t' ≡ all_kept t m r.1 = ap (λ (x : Answer × Tables). x.1) f in
    rw (n.first, g, c, b) (up_more u t k m size l (lines (drop q s)))

-- all lines are read
pub up_done : (u t : Tables) (k m n : ℕ) (s : List ℕ) (p : ℕ) → length s ≤ p → up_to u t k m (readings (lines (drop p s)) n) ≡ (feed_answer_of 0 k m, (u, t))
unfolding readings
up_done u t k m n s p h = rw (lines_none s p h) (up_end u t k m)

-- ---- what the tables hold

-- an answer for each line
readings_long : (ls : List (List ℕ)) (n : ℕ) → length (answers_of (readings ls n)) ≡ length ls
unfolding readings
readings_long [] n = refl
readings_long (l ∷ ls) n = ap suc (readings_long ls (n - length (sheet_of l n).1 * 16))

-- and no more records than a table of n words has room for
readings_fit : (ls : List (List ℕ)) (n : ℕ) → length (records_of (readings ls n)) * 16 ≤ n
unfolding readings
readings_fit [] n = omega arith
readings_fit (l ∷ ls) n =
    let r = sheet_of l n in
    let h = (sheet_held First l n).room in
    let k = readings_fit ls (n - length r.1 * 16) in
    rw (length-append r.1 (records_of (readings ls (n - length r.1 * 16)))) (omega arith)

-- so it is for a feed
pub record Fits (places n : ℕ) (r : FeedReading) : Type 0 where
  pub answers : length r.1.0 ≤ places
  pub records : length r.1.1 * 16 ≤ n

pub feed_fits : (s : List ℕ) (places n : ℕ) → Fits places n (feed_of s places n)
unfolding feed_of
feed_fits s places n = go (ltb places (length (lines s))) refl
  where
    go : (b : Bool) → ltb places (length (lines s)) ≡ b → Fits places n (if b then (feed_answer_of few_places 0 0, ([], [])) else all_of (readings (lines s) n))
    go true e = record { answers = omega arith; records = omega arith }
    go false e = record { answers = rw (readings_long (lines s) n) (ltb-false places (length (lines s)) e); records = readings_fit (lines s) n }

module _ (u t : Tables) (s : List ℕ) (places n : ℕ) where
  -- too few places
  pub feed_few : places < length (lines s) → (feed_answer_of few_places 0 0, (u, t)) ≡ feed_into u t (feed_of s places n)
  unfolding feed_of kept_all all_kept
  feed_few h = rw (lt-ltb places (length (lines s)) h)

  -- enough
  pub feed_lines : length (lines s) ≤ places → feed_into u t (all_of (readings (lines s) n)) ≡ feed_into u t (feed_of s places n)
  unfolding feed_of
  feed_lines h = rw (le-ltb places (length (lines s)) h)

-- ---- tables of words alone, and of bytes alone

module _ {A : Type 0} (a d : Layout A) where
  -- what is kept in a table of answers and in one of records that have room for all is written over them
  laid_over : (x y : List A) (r : FeedReading) → length r.1.0 * a.width ≤ length x → length r.1.1 * d.width ≤ length y →
      (r.0, (kept_all a x 0 r.1.0, kept_all d y 0 r.1.1)) ≡ written_feed a d x y r
  laid_over x y r h k = rw (all_laid a r.1.0 x 0 (rw zero-add h), all_laid d r.1.1 y 0 (rw zero-add k))

module _ (u t : Tables) (r : FeedReading) {f : FeedAnswer} {u' t' : Tables} (e : (f, (u', t')) ≡ feed_into u t r) where
  each : ◌≡◌ {A = FeedAnswer × (Tables × Tables)} (f, (u', t')) (r.0, (answers_kept u 0 r.1.0, (kept_all as_words t.0 0 r.1.1, kept_all as_bytes t.1 0 r.1.1)))
  each = e ∙ rw (all_each r.1.1 t 0)

  pub in_words : Fits (length u.0 / 4) (length t.0) r → (f, (u'.0, t'.0)) ≡ written_feed answers_as_words as_words u.0 t.0 r
  in_words h = ap (λ (z : FeedAnswer × (Tables × Tables)). (z.0, (z.1.0.0, z.1.1.0))) each ∙ laid_over answers_as_words as_words u.0 t.0 r (omega (arith, h.answers)) h.records

  pub in_bytes_lem : Fits (length u.1 / 16) (words_in (length t.1)) r → (f, (u'.1, t'.1)) ≡ written_feed answers_as_bytes as_bytes u.1 t.1 r
  in_bytes_lem h =
      ap (λ (z : FeedAnswer × (Tables × Tables)). (z.0, (z.1.0.1, z.1.1.1))) each
      ∙ laid_over answers_as_bytes as_bytes u.1 t.1 r (omega (arith, h.answers)) (omega (arith, h.records))
