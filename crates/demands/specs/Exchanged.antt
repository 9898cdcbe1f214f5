-- Demand 3, "Exchange one part for bytes whose quotes pair and whose semicolons stand inside quotes, both sheets within 4,096 bytes. Every other part, read
-- with a table as long as before, has its old answer and records, later places shifted by the change in length":
-- the part x between a and b is exchanged for y. A part that begins before x begins where it did and is answered as it was. A part that begins r bytes
-- after x begins r bytes after y, and each place of its old answer and records plus the length of y is that of the new plus the length of x; the 0 of
-- acceptance, of no comment and of a last part's next stays, as `moved_part` says. The new sheet has these parts, the part y, and no others.
use Rattle.std.specs.Prelude.{ℕ, ◌+◌, ◌≤◌, ◌<◌, List, ◌++◌, true, false, ◌≡◌, ℤ, length}
use Rattle.names.specs.declared.Manner.{Manner}
use Rattle.names.specs.Quotes.{inside_of}
use Rattle.lent_slots.specs.Tables.{Layout}
use Rattle.parts.specs.Parts.{begins, part_in, part_end}
use Rattle.sheet.specs.Sheets.{written_as}
use Rattle.sheet.specs.PartReadings.{part_by}
use Rattle.demands.specs.Moved.{moved_part}
use Rattle.sheet.specs.declared.PartAnswer.{PartAnswer}

-- both sheets are within 4,096 bytes, x is a part of the first, the quotes of y pair, and each `;` of y stands inside quotes
pub record Exchanged (a x y b : List ℕ) : Type 0 where
  pub old_fits : length (a ++ (x ++ b)) ≤ 4096
  pub new_fits : length (a ++ (y ++ b)) ≤ 4096
  pub part_begins : begins (a ++ (x ++ b)) (length a) ≡ true
  pub part_ends : part_end (a ++ (x ++ b)) (length a) ≡ length a + length x
  pub pairs : inside_of y ≡ false
  pub quoted : part_in false y ≡ length y

-- what the exchange leaves of the part that begins at a place of the first sheet, for tables of n words: a part of the second
pub data Unchanged (m : Manner) (a x y b : List ℕ) (n : ℕ) : ℕ → Type 0 where
  before : {p : ℕ} → p < length a → begins (a ++ (y ++ b)) p ≡ true → part_by m (a ++ (y ++ b)) p n ≡ part_by m (a ++ (x ++ b)) p n → Unchanged m a x y b n p
  after : (r : ℕ) → 0 < r → begins (a ++ (y ++ b)) (length a + length y + r) ≡ true →
      moved_part (length y) (part_by m (a ++ (x ++ b)) (length a + length x + r) n) ≡ moved_part (length x) (part_by m (a ++ (y ++ b)) (length a + length y + r) n) →
      Unchanged m a x y b n (length a + length x + r)

-- what the part that begins at a place of the second sheet was: a part of the first
pub data Was (a x y b : List ℕ) : ℕ → Type 0 where
  before : {p : ℕ} → p < length a → begins (a ++ (x ++ b)) p ≡ true → Was a x y b p
  after : (r : ℕ) → 0 < r → begins (a ++ (x ++ b)) (length a + length x + r) ≡ true → Was a x y b (length a + length y + r)

-- what the exchange leaves of a call `read` for the part that begins at a place of the first sheet: tables have room for n words, and t is lent to the second
pub data UnchangedCall {A : Type 0} (m : Manner) (d : Layout A) (read : List ℕ → ℕ → List A → PartAnswer × List A) (n : ℕ) (t : List A) (a x y b : List ℕ) : ℕ → Type 0 where
  before : {p : ℕ} → p < length a → read (a ++ (y ++ b)) p t ≡ written_as d t (part_by m (a ++ (x ++ b)) p n) → UnchangedCall m d read n t a x y b p
  after : (r : ℕ) (shifted : PartAnswer × List (List ℤ)) → 0 < r → moved_part (length y) (part_by m (a ++ (x ++ b)) (length a + length x + r) n) ≡ moved_part (length x) shifted →
      read (a ++ (y ++ b)) (length a + length y + r) t ≡ written_as d t shifted → UnchangedCall m d read n t a x y b (length a + length x + r)
