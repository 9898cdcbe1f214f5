-- What a feed's answer says of its lines.
use Rattle.std.specs.Prelude.{ℕ, zero, suc, ◌+◌, ◌*◌, ◌-◌, List, [], ◌∷◌, length, get_or}
use Rattle.sheet.specs.Sheets.{refusal, sheet_of}
use Rattle.feed.specs.Lines.{lines}
use Rattle.feed.specs.Feeds.{Reading, readings}
use Rattle.feed.specs.declared.FeedAnswer.{FeedAnswer}
use Rattle.demands.specs.Untouched.{Untouched}

-- the room left for the line numbered k, from 0, of lines that are read with room for n words
unfoldable pub room_for : List (List ℕ) → ℕ → ℕ → ℕ
room_for [] n k = n
room_for (l ∷ ls) n zero = n
room_for (l ∷ ls) n (suc k) = room_for ls (n - length (sheet_of l n).1 * 16) k

-- the answer and the records of the line numbered k of a feed
abbrev pub line_read : List ℕ → ℕ → ℕ → Reading
line_read s n k = get_or (readings (lines s) n) k (refusal 0 0)

-- the numbers of records that lines answer, added
abbrev pub added : List Reading → ℕ
added [] = 0
added (r ∷ rs) = r.0.records + added rs

-- a number other than 0 gives 0 lines, 0 records, and the tables x of answers and y of records are after the call what they were before it
abbrev pub UntouchedFeed : {A : Type 0} → List A → List A → FeedAnswer × (List A × List A) → Type 0
UntouchedFeed x y r = Untouched r.0.number r.0.lines r.0.records x r.1.0 × Untouched r.0.number r.0.lines r.0.records y r.1.1
