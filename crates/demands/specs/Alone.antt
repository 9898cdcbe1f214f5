-- Demand 3, "each part's number, place, records and warnings are demand 2's for that part alone, places counted from the sheet's start":
-- in a sheet within 4,096 bytes, the part that begins at p is answered as its bytes alone are answered by the sheet reading, with each place moved by p;
-- the next part's place, and whether there is one, are those of the sheet.
use Rattle.std.specs.Prelude.{ℕ, ◌-◌, List, ℤ, take, drop}
use Rattle.names.specs.declared.Manner.{Manner}
use Rattle.parts.specs.Parts.{part_end}
use Rattle.sheet.specs.Sheets.{sheet_by}
use Rattle.sheet.specs.PartReadings.{with_next}
use Rattle.sheet.specs.declared.Answer.{Answer}
use Rattle.sheet.specs.declared.PartAnswer.{PartAnswer}
use Rattle.demands.specs.Moved.{moved_reading}

-- the bytes of the part that begins at p
abbrev pub part_bytes : List ℕ → ℕ → List ℕ
part_bytes s p = take (part_end s p - p) (drop p s)

-- the answer and the records of those bytes alone, read as a sheet, with their places counted from the start of s
abbrev pub read_alone : Manner → List ℕ → ℕ → ℕ → Answer × List (List ℤ)
read_alone m s p n = moved_reading p (sheet_by m (part_bytes s p) n)

-- what the part then comes to
abbrev pub part_alone : Manner → List ℕ → ℕ → ℕ → PartAnswer × List (List ℤ)
part_alone m s p n = (with_next s (part_end s p) (read_alone m s p n).0, (read_alone m s p n).1)
