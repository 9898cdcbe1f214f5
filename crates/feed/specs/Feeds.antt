-- Reading a feed into two tables, one for four-number answers, one for records (docs/RULES.md, 7).
use Rattle.std.specs.Prelude.{ℕ, ◌*◌, ◌-◌, ◌/◌, List, [], ◌∷◌, ◌++◌, map, ltb, ℤ, pos, length, if◌then◌else◌}
use Rattle.lent_slots.specs.Bytes.{record_bytes}
use Rattle.lent_slots.specs.Tables.{Layout, as_words, as_bytes, laid}
use Rattle.sheet.specs.Sheets.{sheet_of, words_in}
use Rattle.sheet.specs.declared.Answer.{Answer}
use Rattle.feed.specs.Lines.{lines}
use Rattle.feed.specs.declared.FeedAnswer.{FeedAnswer}

-- the answer and the records of a sheet
abbrev pub Reading : Type 0
Reading = Answer × List (List ℤ)

-- each line's answer and records are those of a single reading with the room still left: n words, and for the next line 16 fewer for each record of this one.
-- A line that does not fit answers 10 with no records, so the next is tried with the same room
unfoldable pub readings : List (List ℕ) → ℕ → List Reading
readings [] n = []
readings (l ∷ ls) n = sheet_of l n ∷ readings ls (n - length (sheet_of l n).1 * 16)

-- the four words of a line's answer
abbrev pub answer_words : Answer → List ℤ
answer_words a = pos a.number ∷ pos a.place ∷ pos a.records ∷ pos a.warnings ∷ []

-- those of all lines
abbrev pub answers_of : List Reading → List (List ℤ)
answers_of rs = map (λ (r : Reading). answer_words r.0) rs

-- the records of all lines, one line's after the other's
abbrev pub records_of : List Reading → List (List ℤ)
records_of [] = []
records_of (r ∷ rs) = r.1 ++ records_of rs

-- the feed's number, lines and records
abbrev pub feed_answer_of : ℕ → ℕ → ℕ → FeedAnswer
feed_answer_of number lines records = record { number = number; lines = lines; records = records }

-- a feed's answer, the words of its lines' answers, and its records
abbrev pub FeedReading : Type 0
FeedReading = FeedAnswer × (List (List ℤ) × List (List ℤ))

-- what the readings of a feed's lines come to
abbrev pub all_of : List Reading → FeedReading
all_of rs = (feed_answer_of 0 (length rs) (length (records_of rs)), (answers_of rs, records_of rs))

-- the answer table has fewer places than the feed has lines
abbrev pub few_places : ℕ
few_places = 14

-- of a feed, for an answer table of so many places and a record table of n words: 14 gives 0 lines and 0 records, and writes nothing
unfoldable pub feed_of : List ℕ → ℕ → ℕ → FeedReading
feed_of s places n =
    if ltb places (length (lines s)) then (feed_answer_of few_places 0 0, ([], []))
    else all_of (readings (lines s) n)

-- answers in a table of words: 4 to an answer
abbrev pub answers_as_words : Layout ℤ
answers_as_words = record { cells = λ r. r; width = 4 }

-- in a table of bytes: 16 to an answer, each word little-endian
abbrev pub answers_as_bytes : Layout ℕ
answers_as_bytes = record { cells = record_bytes; width = 16 }

-- a feed's answer, and both tables with what it says written over them from their starts: cells past those used stay
abbrev pub written_feed : {A : Type 0} → Layout A → Layout A → List A → List A → FeedReading → FeedAnswer × (List A × List A)
written_feed forAnswers forRecords answers table r = (r.0, (laid forAnswers answers 0 r.1.0, laid forRecords table 0 r.1.1))

-- what reading a feed answers, and both tables afterwards
unfoldable pub feed_reading : List ℕ → List ℤ → List ℤ → FeedAnswer × (List ℤ × List ℤ)
feed_reading s answers table = written_feed answers_as_words as_words answers table (feed_of s (length answers / 4) (length table))

-- the same of tables of bytes
unfoldable pub feed_reading_bytes : List ℕ → List ℕ → List ℕ → FeedAnswer × (List ℕ × List ℕ)
feed_reading_bytes s answers table = written_feed answers_as_bytes as_bytes answers table (feed_of s (length answers / 16) (words_in (length table)))
