-- What is counted of an answer and its records (02, Ask 4).
use Rattle.std.specs.Prelude.{ℕ, ◌+◌, ◌/◌, ◌%◌, List, [], ◌∷◌, ◌++◌, ℤ, replicate, set, if◌then◌else◌}
use Rattle.lent_slots.specs.Tables.{Tables}
use Rattle.records.specs.Fits.{is_kind}
use Rattle.lent_slots.specs.Slots.{records_of}
use Rattle.records.specs.Told.{byte_at}
use Rattle.tallies.specs.Sums.{plus}
use Rattle.tallies.specs.declared.Answer.{Answer}

-- how many of the ordinals 1 to 5 a mask flags: bit n - 1 for n
unfoldable pub flagged_in : ℕ → ℕ
flagged_in mask = mask % 2 + mask / 2 % 2 + mask / 4 % 2 + mask / 8 % 2 + mask / 16 % 2

-- the ordinal marks of a record: of weekdays, those from the start and from the end
unfoldable pub marks_of : List ℤ → ℕ
marks_of w = if is_kind 6 w then flagged_in (byte_at w 4) + flagged_in (byte_at w 5) else 0

-- 1 for a record of a kind
abbrev pub one : ℕ → List ℤ → ℕ
one k w = if is_kind k w then 1 else 0

-- ---- the last ten counts, from word 24 on: answers, warnings, items of kind 2 to 8, marks

-- of a record
unfoldable pub record_counts : List ℤ → List ℕ
record_counts w = 0 ∷ 0 ∷ one 2 w ∷ one 3 w ∷ one 4 w ∷ one 5 w ∷ one 6 w ∷ one 7 w ∷ one 8 w ∷ marks_of w ∷ []

-- of records
unfoldable pub total : List (List ℤ) → List ℕ
total [] = replicate 10 0
total (w ∷ ws) = plus (record_counts w) (total ws)

-- of one answer with so many warnings
abbrev pub own : ℕ → List ℕ
own warnings = 1 ∷ warnings ∷ replicate 8 0

-- ---- all counts: 1 at the answer's number, 0 to 23, and the last ten
unfoldable pub counts_of : Answer → Tables → List ℕ
counts_of a t = set (replicate 24 0) a.number 1 ++ plus (own a.warnings) (total (records_of t))
