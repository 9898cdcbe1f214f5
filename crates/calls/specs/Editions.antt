-- The caller names an edition of the rules by its number (docs/RULES.md, 8).
use Rattle.std.specs.Prelude.{ℕ, List, eqb, ℤ, Option, Some, None, if◌then◌else◌}
use Rattle.names.specs.Refusals.{unknown_edition}
use Rattle.names.specs.declared.Manner.{Manner}
use Rattle.names.specs.declared.Manner.TheVariants.{First, Second}
use Rattle.sheet.specs.Sheets.{refusal, sheet_reading_by, sheet_reading_bytes_by}
use Rattle.sheet.specs.PartReadings.{part_refusal, part_reading_by, part_reading_bytes_by}
use Rattle.sheet.specs.declared.Answer.{Answer}
use Rattle.sheet.specs.declared.PartAnswer.{PartAnswer}

-- 1 and 2 are known
unfoldable pub edition_of : ℕ → Option Manner
edition_of n = if eqb n 1 then Some First else if eqb n 2 then Some Second else None

-- what is read in an edition, or else what is said of one that is not known
abbrev pub in_edition : {A : Type 0} → Option Manner → (Manner → A) → A → A
in_edition (Some m) read unknown = read m
in_edition None read unknown = unknown

-- what reading a sheet in an edition answers, and the table afterwards: 19 comes before any other refusal
unfoldable pub sheet_reading_in : ℕ → List ℕ → List ℤ → Answer × List ℤ
sheet_reading_in edition s t = in_edition (edition_of edition) (λ m. sheet_reading_by m s t) ((refusal unknown_edition 0).0, t)

-- the same of a table of bytes
unfoldable pub sheet_reading_bytes_in : ℕ → List ℕ → List ℕ → Answer × List ℕ
sheet_reading_bytes_in edition s t = in_edition (edition_of edition) (λ m. sheet_reading_bytes_by m s t) ((refusal unknown_edition 0).0, t)

-- what reading a part in an edition answers, and the table afterwards
unfoldable pub part_reading_in : ℕ → List ℕ → ℕ → List ℤ → PartAnswer × List ℤ
part_reading_in edition s p t = in_edition (edition_of edition) (λ m. part_reading_by m s p t) ((part_refusal unknown_edition).0, t)

-- the same of a table of bytes
unfoldable pub part_reading_bytes_in : ℕ → List ℕ → ℕ → List ℕ → PartAnswer × List ℕ
part_reading_bytes_in edition s p t = in_edition (edition_of edition) (λ m. part_reading_bytes_by m s p t) ((part_refusal unknown_edition).0, t)
