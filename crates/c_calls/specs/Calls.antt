-- The calls for C: the numbers each of them leaves, and the tables of bytes afterwards.
use Rattle.std.specs.Prelude.{ℕ, List, [], ◌∷◌, Bool, true, false, ℤ}
use Rattle.names.specs.declared.Manner.{Manner}
use Rattle.names.specs.declared.Manner.TheVariants.{First, House}
use Rattle.sheet.specs.Sheets.{sheet_reading_bytes_by}
use Rattle.sheet.specs.PartReadings.{part_reading_bytes_by}
use Rattle.calls.specs.Editions.{sheet_reading_bytes_in, part_reading_bytes_in}
use Rattle.notes.specs.Notes.{note_part}
use Rattle.sheet.specs.declared.Answer.{Answer}
use Rattle.sheet.specs.declared.PartAnswer.{PartAnswer}
use Rattle.feed.specs.Feeds.{feed_reading_bytes}
use Rattle.feed.specs.declared.FeedAnswer.{FeedAnswer}

-- 1 or 0
abbrev pub flag : Bool → ℕ
flag true = 1
flag false = 0

-- number, place, records, warnings
abbrev pub sheet_numbers : Answer → List ℕ
sheet_numbers a = a.number ∷ a.place ∷ a.records ∷ a.warnings ∷ []

-- the same, the next part's place, and whether this was the last
abbrev pub part_numbers : PartAnswer → List ℕ
part_numbers a = a.number ∷ a.place ∷ a.records ∷ a.warnings ∷ a.next ∷ flag a.last ∷ []

-- whether a part of the sheet, from where, to where
abbrev pub note_numbers : Bool × (ℕ × ℕ) → List ℕ
note_numbers x = flag x.0 ∷ x.1.0 ∷ x.1.1 ∷ []

-- number, lines, records
abbrev pub feed_numbers : FeedAnswer → List ℕ
feed_numbers a = a.number ∷ a.lines ∷ a.records ∷ []

-- a sheet s is read into a table t: the numbers of the reading with room for as many records as t has whole 64 bytes, and the bytes of its records
unfoldable pub sheet_call_by : Manner → List ℕ → List ℕ → List ℕ × List ℕ
sheet_call_by m s t = (sheet_numbers (sheet_reading_bytes_by m s t).0, (sheet_reading_bytes_by m s t).1)

-- by the first edition
abbrev pub sheet_call : List ℕ → List ℕ → List ℕ × List ℕ
sheet_call = sheet_call_by First

-- of a house sheet
abbrev pub house_call : List ℕ → List ℕ → List ℕ × List ℕ
house_call = sheet_call_by House

-- in an edition
unfoldable pub sheet_call_in : ℕ → List ℕ → List ℕ → List ℕ × List ℕ
sheet_call_in edition s t = (sheet_numbers (sheet_reading_bytes_in edition s t).0, (sheet_reading_bytes_in edition s t).1)

-- the part that begins at p is read
unfoldable pub part_call_by : Manner → List ℕ → ℕ → List ℕ → List ℕ × List ℕ
part_call_by m s p t = (part_numbers (part_reading_bytes_by m s p t).0, (part_reading_bytes_by m s p t).1)

-- by the first edition
abbrev pub part_call : List ℕ → ℕ → List ℕ → List ℕ × List ℕ
part_call = part_call_by First

-- of a house sheet
abbrev pub house_part_call : List ℕ → ℕ → List ℕ → List ℕ × List ℕ
house_part_call = part_call_by House

-- in an edition
unfoldable pub part_call_in : ℕ → List ℕ → ℕ → List ℕ → List ℕ × List ℕ
part_call_in edition s p t = (part_numbers (part_reading_bytes_in edition s p t).0, (part_reading_bytes_in edition s p t).1)

-- the note for a comment's start and length, in a sheet and beside a standing note of so many bytes
unfoldable pub note_call : ℕ → ℕ → ℤ → ℤ → List ℕ
note_call sheet note start length = note_numbers (note_part sheet note start length)

-- a feed s is read into a table of answers, of 16 bytes each, and a table of records
unfoldable pub feed_call : List ℕ → List ℕ → List ℕ → List ℕ × (List ℕ × List ℕ)
feed_call s answers table = (feed_numbers (feed_reading_bytes s answers table).0, (feed_reading_bytes s answers table).1)
