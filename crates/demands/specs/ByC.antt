-- What the calls for C say: an answer, read off the numbers that the call leaves, and the table afterwards.
use Rattle.std.specs.Prelude.{ℕ, List, eqb, get_or}
use Rattle.names.specs.declared.Manner.{Manner}
use Rattle.sheet.specs.Sheets.{answer_of}
use Rattle.sheet.specs.PartReadings.{part_answer_of}
use Rattle.sheet.specs.declared.Answer.{Answer}
use Rattle.sheet.specs.declared.PartAnswer.{PartAnswer}
use Rattle.c_calls.specs.Calls.{sheet_call_by, part_call_by}

-- number, place, records, warnings
abbrev pub answer_in : List ℕ → Answer
answer_in l = answer_of (get_or l 0 0) (get_or l 1 0) (get_or l 2 0) (get_or l 3 0)

-- the same, the next part's place, and 1 where this was the last
abbrev pub part_answer_in : List ℕ → PartAnswer
part_answer_in l = part_answer_of (answer_in l) (get_or l 4 0) (eqb (get_or l 5 0) 1)

-- of a sheet
abbrev pub sheet_by_c : Manner → List ℕ → List ℕ → Answer × List ℕ
sheet_by_c m s t = (answer_in (sheet_call_by m s t).0, (sheet_call_by m s t).1)

-- of a part
abbrev pub part_by_c : Manner → List ℕ → ℕ → List ℕ → PartAnswer × List ℕ
part_by_c m s p t = (part_answer_in (part_call_by m s p t).0, (part_call_by m s p t).1)
