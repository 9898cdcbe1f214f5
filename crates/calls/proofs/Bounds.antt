-- Each number of an answer is small, by an edition too.
use Prim.Native.Nat.{ℕ}
use mathlib.Core.List.{List}
use native.Mathlib.Omega.{arith}
use Rattle.sheet.specs.Sheets.{refusal, sheet_reading_bytes_by}
use Rattle.sheet.specs.PartReadings.{part_refusal, part_reading_bytes_by}
use Rattle.sheet.proofs.Bounds.{Small, SmallPart, refusal_small, refused_small, sheet_bytes_small, part_bytes_small}
use Rattle.calls.specs.Editions.{edition_of, in_edition, sheet_reading_bytes_in, part_reading_bytes_in}
use Rattle.std.specs.Prelude.{Option, Some, None}
use Rattle.names.specs.declared.Manner.{Manner}

-- in an edition, or where it is not known
pub sheet_in_small : (edition : ℕ) (s t : List ℕ) → Small (sheet_reading_bytes_in edition s t).0
unfolding sheet_reading_bytes_in
sheet_in_small edition s t = go (edition_of edition)
  where
    go : (e : Option Manner) → Small (in_edition e (λ m. sheet_reading_bytes_by m s t) ((refusal 19 0).0, t)).0
    go (Some m) = sheet_bytes_small m s t
    go None = refusal_small 19 0 (omega arith)

-- in an edition, or where it is not known
pub part_in_small : (edition : ℕ) (s : List ℕ) (p : ℕ) (t : List ℕ) → SmallPart (part_reading_bytes_in edition s p t).0
unfolding part_reading_bytes_in
part_in_small edition s p t = go (edition_of edition)
  where
    go : (e : Option Manner) → SmallPart (in_edition e (λ m. part_reading_bytes_by m s p t) ((part_refusal 19).0, t)).0
    go (Some m) = part_bytes_small m s p t
    go None = refused_small 19
