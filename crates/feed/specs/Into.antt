-- What is read into tables of words and of bytes: each of them has what has its slot there.
use Rattle.std.specs.Prelude.{ℕ, suc, ◌+◌, ◌*◌, ◌/◌, ◌≤◌, List, [], ◌∷◌, ltb, eqb, ℤ, length, drop, if◌then◌else◌}
use Rattle.lent_slots.specs.Tables.{Tables, Layout, kept, all_kept}
use Rattle.records.specs.Warnings.{most_warnings}
use Rattle.sheet.specs.declared.Answer.{Answer}
use Rattle.feed.specs.Feeds.{Reading, FeedReading, answers_as_words, answers_as_bytes}
use Rattle.feed.specs.declared.FeedAnswer.{FeedAnswer}

-- the length of the line at the start of a text
unfoldable pub line_in : List ℕ → ℕ
line_in [] = 0
line_in (b ∷ s) = if eqb b 10 then 0 else suc (line_in s)

-- where the line that begins at p ends
abbrev pub line_end : List ℕ → ℕ → ℕ
line_end s p = p + line_in (drop p s)

-- the place after a line that ends at e
abbrev pub after_line : List ℕ → ℕ → ℕ
after_line s e = if ltb e (length s) then e + 1 else e

-- where a table of so many cells is free from slot k on, with so many cells to a slot
unfoldable pub free_from : ℕ → ℕ → ℕ → ℕ
free_from cells width k = if ltb k (cells / width) then k * width else cells

-- the numbers of an answer are small enough for words
pub record Small (a : Answer) : Type 0 where
  pub place : a.place ≤ 4096
  pub records : a.records ≤ 4096
  pub warnings : a.warnings ≤ most_warnings

-- these words in their slots of one table, one after the other from slot k on, where it has them
unfoldable pub kept_all : {A : Type 0} → Layout A → List A → ℕ → List (List ℤ) → List A
kept_all d t k [] = t
kept_all d t k (r ∷ rs) = kept_all d (kept d t k r) (suc k) rs

-- an answer's words in slot k of a table of words and of one of bytes
abbrev pub answer_kept : Tables → ℕ → List ℤ → Tables
answer_kept t k w = (kept answers_as_words t.0 k w, kept answers_as_bytes t.1 k w)

-- those of answers, from slot k on
abbrev pub answers_kept : Tables → ℕ → List (List ℤ) → Tables
answers_kept t k ws = (kept_all answers_as_words t.0 k ws, kept_all answers_as_bytes t.1 k ws)

-- what a reading of a line answers, and the tables with its records from slot k on
abbrev pub line_into : Tables → ℕ → Reading → Answer × Tables
line_into t k r = (r.0, all_kept t k r.1)

-- what a reading of a feed answers, the tables with its answers, and those with its records
abbrev pub feed_into : Tables → Tables → FeedReading → FeedAnswer × (Tables × Tables)
feed_into answers tables r = (r.0, (answers_kept answers 0 r.1.0, all_kept tables 0 r.1.1))
