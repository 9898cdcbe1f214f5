-- The note shown for a rule: the lent bytes, no copy (docs/RULES.md, 6).
use Rattle.std.specs.Prelude.{ℕ, ◌+◌, ◌-◌, List, Bool, true, false, ◌≡◌, leb, eqb, ℤ, pos, negsuc, length, take, drop, if◌then◌else◌, Option, Some, None}
use Rattle.std.specs.declared.ops.Range.{Range}
use Rattle.std.specs.Borrow.{Bor}
use Rattle.notes.specs.declared.NotePart.{NotePart}
use Rattle.notes.specs.declared.NotePart.TheVariants as part

-- lent bytes
abbrev pub Bytes : Type 0
Bytes = Bor (List ℕ)

-- its comment out of the sheet, or the caller's standing note, whole, if the length is 0; for numbers outside the sheet and a length
-- not 0, the empty part at the note's start: whether of the sheet, from where, to where, for a sheet and a note of so many bytes
unfoldable pub note_part : ℕ → ℕ → ℤ → ℤ → Bool × (ℕ × ℕ)
note_part sheet note (pos a) (pos n) =
    if eqb n 0 then (false, (0, note)) else if leb (a + n) sheet then (true, (a, a + n)) else (false, (0, 0))
note_part sheet note (negsuc a) (pos n) = if eqb n 0 then (false, (0, note)) else (false, (0, 0))
note_part sheet note (pos a) (negsuc n) = (false, (0, 0))
note_part sheet note (negsuc a) (negsuc n) = (false, (0, 0))

-- where a comment stands in a sheet of so many bytes, by its start and its length
unfoldable pub comment : ℕ → ℤ → ℤ → Option (ℕ × ℕ)
comment sheet (pos a) (pos n) = if leb (a + n) sheet then Some (a, a + n) else None
comment sheet (negsuc a) (pos n) = None
comment sheet (pos a) (negsuc n) = None
comment sheet (negsuc a) (negsuc n) = None

-- this, out of the code's answer
abbrev pub place_of : Option (Range ℕ) → Option (ℕ × ℕ)
place_of (Some r) = Some (r.start, r.end)
place_of None = None

-- these numbers, out of the code's answer
abbrev pub numbers_of : NotePart → Bool × (ℕ × ℕ)
numbers_of (part.Sheet a e) = (true, (a, e))
numbers_of (part.Standing a e) = (false, (a, e))

-- the sheet's bytes or the note's
abbrev pub bytes_of : Bytes → Bytes → Bool × (ℕ × ℕ) → Bytes × (ℕ × ℕ)
bytes_of sheet note (true, x) = (sheet, x)
bytes_of sheet note (false, x) = (note, x)

-- the note: of which bytes, from where, to where
abbrev pub note_of : Bytes → Bytes → ℤ → ℤ → Bytes × (ℕ × ℕ)
note_of sheet note a n = bytes_of sheet note (note_part (length sheet.now) (length note.now) a n)

-- bytes that are the part of x from a to e: they stand in x, a bytes after its start, and are its bytes up to e
abbrev pub CutFrom : Bytes × (ℕ × ℕ) → ℕ × ℕ → List ℕ → Type 0
CutFrom (x, (a, e)) place bytes = (place ≡ (x.ref_ptr.0, x.ref_ptr.1 + a)) × (bytes ≡ take (e - a) (drop a x.now))
