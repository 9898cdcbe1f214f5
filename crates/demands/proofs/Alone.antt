-- A part is answered as its bytes alone are (specs/Alone.antt).
use Prim.Native.Nat.{ℕ, ◌+◌, ◌-◌, ◌≤◌}
use mathlib.Core.List.{List, ◌++◌}
use mathlib.Core.Bool.{true}
use mathlib.Core.Path.{◌≡◌, sym, ap, ◌∙◌}
use native.Mathlib.Omega.{arith}
use native.Mathlib.Nat.{add-zero}
use lib.ListN.{length, take, length-take, length-drop}
use lib.Seq.{length-take-le, take-add}
use borrow.Author.Tests.{le-ltb}
use Rattle.names.specs.declared.Manner.{Manner}
use Rattle.parts.specs.Parts.{begins, part_end}
use Rattle.sheet.specs.Sheets.{text_of, sheet_by}
use Rattle.sheet.specs.PartReadings.{part_by}
use Rattle.demands.specs.Moved.{moved_reading}
use Rattle.demands.specs.Alone.{part_bytes, part_alone}
use Rattle.parts.proofs.PartLaws.{begins_fits}
use Rattle.demands.proofs.TextMoves.{text_move}

-- the text up to a part's end, read from its beginning on
text_alone : (m : Manner) (s : List ℕ) (p n : ℕ) → p ≤ length s → text_of m (take (part_end s p) s) p n ≡ moved_reading p (text_of m (part_bytes s p) 0 n)
unfolding part_end
text_alone m s p n h =
    let e : p + (part_end s p - p) ≡ part_end s p = omega arith in
    let whole : take p s ++ part_bytes s p ≡ take (part_end s p) s = sym (take-add p (part_end s p - p) s) ∙ ap (λ k. take k s) e in
    rw (whole, length-take-le p s h, add-zero) at (text_move m (take p s) (part_bytes s p) 0 n)

-- a part of a sheet within 4,096 bytes is such a sheet
sheet_alone : (m : Manner) (s : List ℕ) (p n : ℕ) → length s ≤ 4096 → sheet_by m (part_bytes s p) n ≡ text_of m (part_bytes s p) 0 n
unfolding sheet_by
sheet_alone m s p n h = rw (le-ltb 4096 (length (part_bytes s p)) (simp (length-take, length-drop) (omega arith)))

-- a part is answered as its bytes alone are
pub alone : (m : Manner) (s : List ℕ) (p n : ℕ) → length s ≤ 4096 → begins s p ≡ true →
    part_by m s p n ≡ part_alone m s p n
unfolding part_by
alone m s p n h b = rw (le-ltb 4096 (length s) h, b, sheet_alone m s p n h, text_alone m s p n (begins_fits s p b))
