-- A reading in a text that stands d bytes later: places move, and nothing else does. The 0 of acceptance, of no comment and of a last part's next stays.
use Rattle.std.specs.Prelude.{ℕ, ◌+◌, List, map, Bool, false, ◌&&◌, not, eqb, ℤ, pos, negsuc, ◌+ℤ◌, get_or, set, if◌then◌else◌}
use Rattle.sheet.specs.Sheets.{answer_of}
use Rattle.sheet.specs.PartReadings.{part_answer_of}
use Rattle.sheet.specs.declared.Answer.{Answer}
use Rattle.sheet.specs.declared.PartAnswer.{PartAnswer}

-- a word that is the number k
abbrev pub is : ℕ → ℤ → Bool
is k (pos n) = eqb n k
is k (negsuc n) = false

-- a word of a record moves
abbrev pub moved_word : ℕ → ℕ → List ℤ → List ℤ
moved_word k d r = set r k (pos d +ℤ get_or r k (pos 0))

-- a record that is a head with a comment: word 4 is the comment's length
abbrev pub has_comment : List ℤ → Bool
has_comment r = is 1 (get_or r 0 (pos 0)) && not (is 0 (get_or r 4 (pos 0)))

-- the comment's start (word 3) moves where there is a comment, the place (word 15) of every record
unfoldable pub moved_record : ℕ → List ℤ → List ℤ
moved_record d r = moved_word 15 d (if has_comment r then moved_word 3 d r else r)

-- a place moves where the number is not 0
abbrev pub moved_place : ℕ → ℕ → ℕ → ℕ
moved_place d number place = if eqb number 0 then place else d + place

-- the answer and the records of a text
abbrev pub moved_reading : ℕ → Answer × List (List ℤ) → Answer × List (List ℤ)
moved_reading d r =
    (answer_of r.0.number (moved_place d r.0.number r.0.place) r.0.records r.0.warnings, map (moved_record d) r.1)

-- the next part's place moves where there is one
abbrev pub moved_next : ℕ → Bool → ℕ → ℕ
moved_next d last next = if last then next else d + next

-- the answer and the records of a part
abbrev pub moved_part : ℕ → PartAnswer × List (List ℤ) → PartAnswer × List (List ℤ)
moved_part d r = (
  part_answer_of (answer_of r.0.number (moved_place d r.0.number r.0.place) r.0.records r.0.warnings) (moved_next d r.0.last r.0.next)
      r.0.last,
  map (moved_record d) r.1,
)
