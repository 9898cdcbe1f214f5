-- No second answer meets the promise of a user's call, for each of the twenty-six: two that meet it are one.
use Prim.Native.Nat.{ℕ}
use mathlib.Core.List.{List}
use mathlib.Core.Path.{◌≡◌, sym, ◌∙◌}
use lib.IntN.{ℤ}
use Rattle.names.specs.declared.Manner.{Manner}
use Rattle.sheet.specs.Sheets.{sheet_reading_by, sheet_reading_bytes_by}
use Rattle.sheet.specs.PartReadings.{part_reading_by, part_reading_bytes_by}
use Rattle.notes.specs.Notes.{Bytes, CutFrom, note_part, numbers_of, note_of}
use Rattle.sheet.specs.declared.Answer.{Answer}
use Rattle.sheet.specs.declared.PartAnswer.{PartAnswer}
use Rattle.notes.specs.declared.NotePart.{NotePart}
use Rattle.notes.proofs.Noted.{same_part}
use Rattle.calls.specs.Editions.{sheet_reading_in, sheet_reading_bytes_in, part_reading_in, part_reading_bytes_in}
use Rattle.feed.specs.Feeds.{feed_reading, feed_reading_bytes}
use Rattle.feed.specs.declared.FeedAnswer.{FeedAnswer}
use Rattle.c_calls.specs.Calls.{sheet_call_by, sheet_call_in, part_call_by, part_call_in, note_call, feed_call}
use Rattle.c_calls.specs.Tallies.{add_call, join_call}

-- what is the same as a third thing is the same
one : {A : Type 0} {x y z : A} → x ≡ z → y ≡ z → x ≡ y
one d e = d ∙ sym e

-- read_sheet, read_house_sheet: the answer, and the table afterwards
pub sheet_one_answer : (m : Manner) (s : List ℕ) (t : List ℤ) {x y : Answer × List ℤ} → x ≡ sheet_reading_by m s t → y ≡ sheet_reading_by m s t → x ≡ y
sheet_one_answer m s t = one

-- read_sheet_bytes, read_house_sheet_bytes
pub sheet_bytes_one_answer : (m : Manner) (s t : List ℕ) {x y : Answer × List ℕ} → x ≡ sheet_reading_bytes_by m s t → y ≡ sheet_reading_bytes_by m s t → x ≡ y
sheet_bytes_one_answer m s t = one

-- read_part, read_house_part
pub part_one_answer : (m : Manner) (s : List ℕ) (p : ℕ) (t : List ℤ) {x y : PartAnswer × List ℤ} → x ≡ part_reading_by m s p t → y ≡ part_reading_by m s p t → x ≡ y
part_one_answer m s p t = one

-- read_part_bytes, read_house_part_bytes
pub part_bytes_one_answer : (m : Manner) (s : List ℕ) (p : ℕ) (t : List ℕ) {x y : PartAnswer × List ℕ} → x ≡ part_reading_bytes_by m s p t → y ≡ part_reading_bytes_by m s p t → x ≡ y
part_bytes_one_answer m s p t = one

-- note_part: which bytes, from where and to where
pub note_part_one_answer : (sheet note : ℕ) (a n : ℤ) {x y : NotePart} → numbers_of x ≡ note_part sheet note a n → numbers_of y ≡ note_part sheet note a n → x ≡ y
note_part_one_answer sheet note a n {x} {y} d e = same_part x y (one d e)

-- note: where its bytes stand, and the bytes
pub note_one_answer : (sheet note : Bytes) (a n : ℤ) {place place' : ℕ × ℕ} {bytes bytes' : List ℕ} →
    CutFrom (note_of sheet note a n) place bytes → CutFrom (note_of sheet note a n) place' bytes' → (place ≡ place') × (bytes ≡ bytes')
note_one_answer sheet note a n d e = (one d.0 e.0, one d.1 e.1)

-- read_feed: the answer, and both tables afterwards
pub feed_one_answer : (s : List ℕ) (u t : List ℤ) {x y : FeedAnswer × (List ℤ × List ℤ)} → x ≡ feed_reading s u t → y ≡ feed_reading s u t → x ≡ y
feed_one_answer s u t = one

-- read_feed_bytes
pub feed_bytes_one_answer : (s u t : List ℕ) {x y : FeedAnswer × (List ℕ × List ℕ)} → x ≡ feed_reading_bytes s u t → y ≡ feed_reading_bytes s u t → x ≡ y
feed_bytes_one_answer s u t = one

-- lorukinde_read_sheet, lorukinde_read_house_sheet: the numbers, and the table afterwards
pub sheet_call_one_answer : (m : Manner) (s t : List ℕ) {x y : List ℕ × List ℕ} → x ≡ sheet_call_by m s t → y ≡ sheet_call_by m s t → x ≡ y
sheet_call_one_answer m s t = one

-- lorukinde_read_part, lorukinde_read_house_part
pub part_call_one_answer : (m : Manner) (s : List ℕ) (p : ℕ) (t : List ℕ) {x y : List ℕ × List ℕ} → x ≡ part_call_by m s p t → y ≡ part_call_by m s p t → x ≡ y
part_call_one_answer m s p t = one

-- lorukinde_note: the numbers
pub note_call_one_answer : (sheet note : ℕ) (a n : ℤ) {x y : List ℕ} → x ≡ note_call sheet note a n → y ≡ note_call sheet note a n → x ≡ y
note_call_one_answer sheet note a n = one

-- lorukinde_read_feed: the numbers, and both tables afterwards
pub feed_call_one_answer : (s u t : List ℕ) {x y : List ℕ × (List ℕ × List ℕ)} → x ≡ feed_call s u t → y ≡ feed_call s u t → x ≡ y
feed_call_one_answer s u t = one

-- the calls with an edition: read_sheet_in
pub sheet_in_one_answer : (edition : ℕ) (s : List ℕ) (t : List ℤ) {x y : Answer × List ℤ} → x ≡ sheet_reading_in edition s t → y ≡ sheet_reading_in edition s t → x ≡ y
sheet_in_one_answer edition s t = one

-- read_sheet_bytes_in
pub sheet_bytes_in_one_answer : (edition : ℕ) (s t : List ℕ) {x y : Answer × List ℕ} → x ≡ sheet_reading_bytes_in edition s t → y ≡ sheet_reading_bytes_in edition s t → x ≡ y
sheet_bytes_in_one_answer edition s t = one

-- read_part_in
pub part_in_one_answer : (edition : ℕ) (s : List ℕ) (p : ℕ) (t : List ℤ) {x y : PartAnswer × List ℤ} → x ≡ part_reading_in edition s p t → y ≡ part_reading_in edition s p t → x ≡ y
part_in_one_answer edition s p t = one

-- read_part_bytes_in
pub part_bytes_in_one_answer : (edition : ℕ) (s : List ℕ) (p : ℕ) (t : List ℕ) {x y : PartAnswer × List ℕ} → x ≡ part_reading_bytes_in edition s p t → y ≡ part_reading_bytes_in edition s p t → x ≡ y
part_bytes_in_one_answer edition s p t = one

-- lorukinde_read_sheet_in
pub sheet_call_in_one_answer : (edition : ℕ) (s t : List ℕ) {x y : List ℕ × List ℕ} → x ≡ sheet_call_in edition s t → y ≡ sheet_call_in edition s t → x ≡ y
sheet_call_in_one_answer edition s t = one

-- lorukinde_read_part_in
pub part_call_in_one_answer : (edition : ℕ) (s : List ℕ) (p : ℕ) (t : List ℕ) {x y : List ℕ × List ℕ} → x ≡ part_call_in edition s p t → y ≡ part_call_in edition s p t → x ≡ y
part_call_in_one_answer edition s p t = one

-- lorukinde_tally_add: the number, and the tally's bytes afterwards
pub tally_add_one_answer :
    (tally : List ℕ) (number place records warnings : ℕ) (table : List ℕ) {x y : ℕ × List ℕ} →
    x ≡ add_call tally number place records warnings table → y ≡ add_call tally number place records warnings table → x ≡ y
tally_add_one_answer tally number place records warnings table = one

-- lorukinde_tally_join
pub tally_join_one_answer : (tally other : List ℕ) {x y : ℕ × List ℕ} → x ≡ join_call tally other → y ≡ join_call tally other → x ≡ y
tally_join_one_answer tally other = one
