-- The two editions: what the first accepts, the second accepts with the same records and warnings, and never gives 8; the calls with an edition are those without one in edition 1,
-- and give 19 and nothing else in one that is not known.
use Rattle.std.specs.Prelude.{ℕ, List, ◌≡◌}
use Rattle.names.specs.Refusals.{point_in_time, unknown_edition}
use Rattle.names.specs.declared.Manner.TheVariants.{Second}
use Rattle.sheet.specs.Sheets.{refusal, sheet_by, sheet_of}
use Rattle.sheet.specs.PartReadings.{part_refusal, part_by, part_of}
use Rattle.sheet.specs.declared.Answer.{Answer}
use Rattle.sheet.specs.declared.PartAnswer.{PartAnswer}

-- a sheet, for a table of n words
abbrev pub SheetKept : Type 0
SheetKept = (s : List ℕ) (n : ℕ) → (sheet_of s n).0.number ≡ 0 → sheet_by Second s n ≡ sheet_of s n

-- the part of a sheet that begins at p
abbrev pub PartKept : Type 0
PartKept = (s : List ℕ) (p n : ℕ) → (part_of s p n).0.number ≡ 0 → part_by Second s p n ≡ part_of s p n

-- a call for a sheet, without an edition and with one: the answer, and the table t afterwards
pub record SheetCalls {A : Type 0} (t : List A) (read : Answer × List A) (readIn : ℕ → Answer × List A) : Type 0 where
  pub first : readIn 1 ≡ read
  pub second : read.0.number ≡ 0 → readIn 2 ≡ read
  pub never : (readIn 2).0.number ≡ point_in_time → ⊥
  pub unknown : (edition : ℕ) → (edition ≡ 1 → ⊥) → (edition ≡ 2 → ⊥) → readIn edition ≡ ((refusal unknown_edition 0).0, t)

-- and for a part
pub record PartCalls {A : Type 0} (t : List A) (read : PartAnswer × List A) (readIn : ℕ → PartAnswer × List A) : Type 0 where
  pub first : readIn 1 ≡ read
  pub second : read.0.number ≡ 0 → readIn 2 ≡ read
  pub never : (readIn 2).0.number ≡ point_in_time → ⊥
  pub unknown : (edition : ℕ) → (edition ≡ 1 → ⊥) → (edition ≡ 2 → ⊥) → readIn edition ≡ ((part_refusal unknown_edition).0, t)

-- in edition 2 the number 8 is never given: of a sheet, and of a part
abbrev pub SheetNever8 : Type 0
SheetNever8 = (s : List ℕ) (n : ℕ) → (sheet_by Second s n).0.number ≡ point_in_time → ⊥

abbrev pub PartNever8 : Type 0
PartNever8 = (s : List ℕ) (p n : ℕ) → (part_by Second s p n).0.number ≡ point_in_time → ⊥
