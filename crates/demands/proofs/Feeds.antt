-- A feed's answer: its number is 0 or 14, a refusal leaves everything as it was, and its counts are those of its lines.
use Prim.Native.Nat.{ℕ, zero, suc, ◌*◌, ◌-◌, ◌≤◌, ◌<◌}
use mathlib.Core.List.{List, [], ◌∷◌}
use mathlib.Core.Path.{◌≡◌, refl, sym, ap, subst}
use native.Mathlib.Omega.{arith}
use lib.Dec.{ltb}
use lib.IntN.{ℤ}
use lib.ListN.{length, get_or, length-append}
use borrow.Author.Tests.{lt-ltb, le-ltb}
use Rattle.lent_slots.specs.Tables.{Layout, laid}
use Rattle.sheet.specs.Sheets.{refusal, sheet_of}
use Rattle.names.specs.declared.Manner.TheVariants.{First}
use Rattle.sheet.proofs.Readings.{sheet_held}
use Rattle.feed.specs.Lines.{lines}
use Rattle.feed.specs.Feeds.{Reading, readings, records_of, feed_answer_of, all_of, FeedReading, few_places, feed_of, written_feed, feed_reading, feed_reading_bytes}
use Rattle.feed.specs.declared.FeedAnswer.{FeedAnswer}
use Rattle.c_calls.specs.Calls.{feed_call}
use Rattle.demands.specs.Feeds.{room_for, line_read, added, UntouchedFeed}
use Rattle.names.proofs.Laws.{either}

-- ---- its number

module _ (s : List ℕ) (places n : ℕ) where
  -- 14 where the answer table has fewer places than lines
  pub feed_refused : places < length (lines s) → (feed_of s places n).0 ≡ feed_answer_of few_places 0 0
  unfolding feed_of
  feed_refused h = rw (lt-ltb places (length (lines s)) h)

  -- else 0, with all lines and the records of each
  pub feed_accepted : length (lines s) ≤ places → feed_of s places n ≡ all_of (readings (lines s) n)
  unfolding feed_of
  feed_accepted h = rw (le-ltb places (length (lines s)) h)

-- ---- its lines

-- each line's answer and records are those of a single reading with the room still left
pub read_is : (ls : List (List ℕ)) (n k : ℕ) (d : Reading) → k < length ls → get_or (readings ls n) k d ≡ sheet_of (get_or ls k []) (room_for ls n k)
unfolding readings room_for
read_is [] n k d h = absurd (omega arith)
read_is (l ∷ ls) n zero d h = refl
read_is (l ∷ ls) n (suc k) d h = read_is ls (n - length (sheet_of l n).1 * 16) k d (omega arith)

pub line_read_lem : (s : List ℕ) (n k : ℕ) → k < length (lines s) → line_read s n k ≡ sheet_of (get_or (lines s) k []) (room_for (lines s) n k)
line_read_lem s n k = read_is (lines s) n k (refusal 0 0)

-- ---- its counts

-- as many lines as it has
pub lines_counted : (ls : List (List ℕ)) (n : ℕ) → length (readings ls n) ≡ length ls
unfolding readings
lines_counted [] n = refl
lines_counted (l ∷ ls) n = ap suc (lines_counted ls (n - length (sheet_of l n).1 * 16))

-- the records of all lines, added
pub records_counted : (ls : List (List ℕ)) (n : ℕ) → length (records_of (readings ls n)) ≡ added (readings ls n)
unfolding readings
records_counted [] n = refl
records_counted (l ∷ ls) n = simp length-append (omega (arith, (sheet_held First l n).many, records_counted ls (n - length (sheet_of l n).1 * 16)))

-- ---- a refusal leaves everything as it was

left : {A : Type 0} (a d : Layout A) (x y : List A) (s : List ℕ) (places n : ℕ) → UntouchedFeed x y (written_feed a d x y (feed_of s places n))
unfolding feed_of laid
left a d x y s places n =
    either (λ (r : FeedReading). UntouchedFeed x y (written_feed a d x y r)) (ltb places (length (lines s))) (feed_answer_of few_places 0 0, ([], [])) (all_of (readings (lines s) n))
    (λ _. (refl, refl, refl), λ _. (refl, refl, refl))
    (λ h. absurd (h refl), λ h. absurd (h refl))

module _ (s : List ℕ) where
  -- with tables of words
  pub feed_untouched : (u t : List ℤ) {f : FeedAnswer} {u' t' : List ℤ} → (f, (u', t')) ≡ feed_reading s u t → UntouchedFeed u t (f, (u', t'))
  unfolding feed_reading
  feed_untouched u t e = subst (UntouchedFeed u t) (sym e) (left _ _ u t s _ _)

  -- and of bytes
  pub feed_bytes_untouched : (u t : List ℕ) {f : FeedAnswer} {u' t' : List ℕ} → (f, (u', t')) ≡ feed_reading_bytes s u t → UntouchedFeed u t (f, (u', t'))
  unfolding feed_reading_bytes
  feed_bytes_untouched u t e = subst (UntouchedFeed u t) (sym e) (left _ _ u t s _ _)

  -- by C
  pub feed_call_untouched : (u t : List ℕ) {number lines records : ℕ} {u' t' : List ℕ} →
      (number ∷ lines ∷ records ∷ [], (u', t')) ≡ feed_call s u t → UntouchedFeed u t (feed_answer_of number lines records, (u', t'))
  unfolding feed_call feed_reading_bytes
  feed_call_untouched u t e = subst (λ r. UntouchedFeed u t (feed_answer_of (get_or r.0 0 0) (get_or r.0 1 0) (get_or r.0 2 0), r.1)) (sym e) (left _ _ u t s _ _)
