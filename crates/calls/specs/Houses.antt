-- House sheets: the rules of the first edition, judged by the house profile besides (docs/RULES.md, 9).
use Rattle.std.specs.Prelude.{ℕ, List, ℤ}
use Rattle.names.specs.declared.Manner.TheVariants.{House}
use Rattle.sheet.specs.Sheets.{sheet_reading_by, sheet_reading_bytes_by}
use Rattle.sheet.specs.PartReadings.{part_reading_by, part_reading_bytes_by}
use Rattle.sheet.specs.declared.Answer.{Answer}
use Rattle.sheet.specs.declared.PartAnswer.{PartAnswer}

-- what reading a house sheet answers, and the table afterwards
abbrev pub house_reading : List ℕ → List ℤ → Answer × List ℤ
house_reading = sheet_reading_by House

-- the same of a table of bytes
abbrev pub house_reading_bytes : List ℕ → List ℕ → Answer × List ℕ
house_reading_bytes = sheet_reading_bytes_by House

-- what reading a part of a house sheet answers, and the table afterwards
abbrev pub house_part_reading : List ℕ → ℕ → List ℤ → PartAnswer × List ℤ
house_part_reading = part_reading_by House

-- the same of a table of bytes
abbrev pub house_part_reading_bytes : List ℕ → ℕ → List ℕ → PartAnswer × List ℕ
house_part_reading_bytes = part_reading_bytes_by House
