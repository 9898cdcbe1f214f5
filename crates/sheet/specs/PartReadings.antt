-- Reading a part (docs/RULES.md, 6).
use Rattle.std.specs.Prelude.{ℕ, suc, List, [], Bool, true, false, not, ltb, ℤ, length, take, if◌then◌else◌}
use Rattle.names.specs.Refusals.{no_part, too_long}
use Rattle.names.specs.declared.Manner.{Manner}
use Rattle.names.specs.declared.Manner.TheVariants.{First}
use Rattle.lent_slots.specs.Tables.{as_bytes}
use Rattle.parts.specs.Parts.{begins, part_end}
use Rattle.sheet.specs.Sheets.{refusal, text_of, written, written_as, words_in}
use Rattle.sheet.specs.declared.Answer.{Answer}
use Rattle.sheet.specs.declared.PartAnswer.{PartAnswer}

-- an answer, the next part's place and whether this was the last
abbrev pub part_answer_of : Answer → ℕ → Bool → PartAnswer
part_answer_of a next last = record { number = a.number; place = a.place; records = a.records; warnings = a.warnings; next = next; last = last }

-- the next part begins after the `;` that ends this one; the last has none, and next is 0
unfoldable pub with_next : List ℕ → ℕ → Answer → PartAnswer
with_next s e a = if ltb e (length s) then part_answer_of a (suc e) false else part_answer_of a 0 true

-- the answer and the records of the part from p to e: the text up to e is read from p on
abbrev pub part_to : Manner → List ℕ → ℕ → ℕ → ℕ → PartAnswer × List (List ℤ)
part_to m s p n e =
    let r = text_of m (take e s) p n in
    (with_next s e r.0, r.1)

-- 1, 2 and 19 give next 0, last
abbrev pub part_refusal : ℕ → PartAnswer × List (List ℤ)
part_refusal number = (part_answer_of (refusal number 0).0 0 true, [])

-- the answer and the records of the part that begins at p, for a table of n words
unfoldable pub part_by : Manner → List ℕ → ℕ → ℕ → PartAnswer × List (List ℤ)
part_by m s p n =
    if ltb 4096 (length s) then part_refusal too_long
    else if not (begins s p) then part_refusal no_part
    else part_to m s p n (part_end s p)

-- by the first edition
abbrev pub part_of : List ℕ → ℕ → ℕ → PartAnswer × List (List ℤ)
part_of = part_by First

-- what reading a part answers, and the table afterwards
unfoldable pub part_reading_by : Manner → List ℕ → ℕ → List ℤ → PartAnswer × List ℤ
part_reading_by m s p t = written t (part_by m s p (length t))

-- by the first edition
abbrev pub part_reading : List ℕ → ℕ → List ℤ → PartAnswer × List ℤ
part_reading = part_reading_by First

-- the same of a table of bytes
unfoldable pub part_reading_bytes_by : Manner → List ℕ → ℕ → List ℕ → PartAnswer × List ℕ
part_reading_bytes_by m s p t = written_as as_bytes t (part_by m s p (words_in (length t)))

-- by the first edition
abbrev pub part_reading_bytes : List ℕ → ℕ → List ℕ → PartAnswer × List ℕ
part_reading_bytes = part_reading_bytes_by First
