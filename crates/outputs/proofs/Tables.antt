-- The records in a table after a sheet is read.
use Prim.Native.Nat.{ℕ, ◌+◌, ◌*◌, ◌≤◌, min}
use mathlib.Core.List.{List, ◌++◌}
use mathlib.Core.Path.{◌≡◌, ap, ◌∙◌}
use native.Mathlib.Omega.{arith}
use lib.IntN.{ℤ}
use lib.ListN.{length}
use Rattle.lent_slots.specs.Tables.{as_words, laid, records_in}
use Rattle.lent_slots.proofs.Cells.{records_back}
use Rattle.names.specs.declared.Manner.TheVariants.{First}
use Rattle.sheet.specs.Sheets.{sheet_of, sheet_reading, sheet_reading_by}
use Rattle.sheet.specs.declared.Answer.{Answer}
use Rattle.sheet.proofs.Readings.{sheet_held}
use Rattle.prints.specs.Lines.{line, lines}
use Rattle.prints.specs.Pens.{largest, wrote}
use Rattle.outputs.specs.Outputs.{numbers_of, output_of, filled, longest}

-- a sheet is read into a table of 8,192 words
module _ (s : List ℕ) (t : List ℤ) {a : Answer} {u : List ℤ} (long : length t ≡ 8192) (e : (a, u) ≡ sheet_reading s t) where
  -- there are 512 records at most
  pub few_records : a.records ≤ 512
  unfolding sheet_reading_by
  few_records = let h = sheet_held First s (length t) in omega (arith, ap (λ r. r.0.records) e ∙ h.many, h.room)

  -- the answer's line and those of its records are the output
  pub output_lines : line (numbers_of a) ++ lines (records_in a.records u) ≡ output_of s
  unfolding sheet_reading_by output_of lines
  output_lines =
      let h = sheet_held First s (length t) in
      let rs = (sheet_of s (length t)).1 in
      let answer : a ≡ (sheet_of s (length t)).0 = ap (λ r. r.0) e in
      let table : u ≡ laid as_words t 0 rs = ap (λ r. r.1) e in
      let room : length rs * 16 ≤ length t = omega (arith, h.room) in
      let read : records_in a.records u ≡ rs = rw (answer, table, h.many) (records_back rs t h.long room) in
      rw (read, answer, long)

-- a text that the pen can count is written whole
pub all_counted : (text out : List ℕ) {r : ℕ} {o : List ℕ} → (r, o) ≡ wrote text 0 out → r ≤ longest → (r, o) ≡ filled text out
all_counted text out e h = let n : min (0 + length text) largest ≡ length text = omega (arith, ap (λ r. r.0) e) in rw n at e
