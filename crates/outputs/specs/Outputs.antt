-- What the program writes for a sheet.
use Rattle.std.specs.Prelude.{ℕ, ◌+◌, ◌*◌, List, [], ◌∷◌, ℤ, pos, length}
use Rattle.std.proofs.lemmas.List.Edits.{sets}
use Rattle.sheet.specs.Sheets.{sheet_of}
use Rattle.sheet.specs.declared.Answer.{Answer}
use Rattle.prints.specs.Lines.{lines}

-- the four numbers
abbrev pub numbers_of : Answer → List ℤ
numbers_of a = pos a.number ∷ pos a.place ∷ pos a.records ∷ pos a.warnings ∷ []

-- with a table for 512 records, the four numbers, then each record, one line each
unfoldable pub output_of : List ℕ → List ℕ
output_of s =
    let r = sheet_of s (512 * 16) in
    lines (numbers_of r.0 ∷ r.1)

-- the length of a text, and bytes with it over their front, as far as they reach, the rest as before
abbrev pub filled : List ℕ → List ℕ → ℕ × List ℕ
filled text out = (length text, sets out 0 text)

-- no output is longer: four numbers of 20 digits at most, and 512 times 16 words of a sign and ten digits at most, a byte after each
abbrev pub longest : ℕ
longest = 4 * 21 + 512 * 16 * 12
