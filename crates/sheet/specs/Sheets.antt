-- Reading a text, and a sheet (docs/RULES.md, 6).
use Rattle.std.specs.Prelude.{ℕ, ◌*◌, ◌/◌, List, [], ltb, ℤ, length, if◌then◌else◌}
use Rattle.names.specs.Read.{Read, got, none, refused}
use Rattle.names.specs.Refusals.{no_room, no_shape, too_long}
use Rattle.names.specs.declared.Manner.{Manner}
use Rattle.names.specs.declared.Manner.TheVariants.{First}
use Rattle.rules.specs.Rules.{Rule}
use Rattle.lent_slots.specs.Tables.{Layout, as_words, as_bytes, laid}
use Rattle.text_rules.specs.Texts.{judged_rules, records, warnings}
use Rattle.sheet.specs.declared.Answer.{Answer}

-- number, place, records, warnings
abbrev pub answer_of : ℕ → ℕ → ℕ → ℕ → Answer
answer_of number place records warnings = record { number = number; place = place; records = records; warnings = warnings }

-- a refusal gives 0 records and 0 warnings, and writes nothing
abbrev pub refusal : ℕ → ℕ → Answer × List (List ℤ)
refusal number place = (answer_of number place 0 0, [])

-- these records, with so many warnings, if the groups of 16 words in a table of n words are enough; else 10 at the text's first byte p
abbrev pub stored : ℕ → ℕ → ℕ → List (List ℤ) → Answer × List (List ℤ)
stored p n warned rs =
    if ltb (n / 16) (length rs) then refusal no_room p
    else (answer_of 0 0 (length rs) warned, rs)

-- what the rules of a text come to. They are read or refused: there is never none of them (`rules_sure`, proofs/Sure.antt)
abbrev pub judged_text : ℕ → ℕ → Read (List Rule × Unit {0}) → Answer × List (List ℤ)
judged_text p n (got l j) = stored p n (warnings l.0) (records l.0)
judged_text p n none = refusal no_shape p
judged_text p n (refused k q) = refusal k q

-- the answer and the records of the text from place p on to the end of s, for a table of n words
unfoldable pub text_of : Manner → List ℕ → ℕ → ℕ → Answer × List (List ℤ)
text_of m s p n = judged_text p n (judged_rules m s p)

-- the answer and the records of a sheet: one of over 4,096 bytes is not read
unfoldable pub sheet_by : Manner → List ℕ → ℕ → Answer × List (List ℤ)
sheet_by m s n = if ltb 4096 (length s) then refusal too_long 0 else text_of m s 0 n

-- by the first edition
abbrev pub sheet_of : List ℕ → ℕ → Answer × List (List ℤ)
sheet_of = sheet_by First

-- a table after records are written: only their cells change
abbrev pub table_after_as : {A : Type 0} → Layout A → List A → List (List ℤ) → List A
table_after_as d t rs = laid d t 0 rs

-- of words
abbrev pub table_after : List ℤ → List (List ℤ) → List ℤ
table_after = table_after_as as_words

-- what reading answers, and the table afterwards
abbrev pub written_as : {A B : Type 0} → Layout B → List B → A × List (List ℤ) → A × List B
written_as d t r = (r.0, table_after_as d t r.1)

-- of words
abbrev pub written : {A : Type 0} → List ℤ → A × List (List ℤ) → A × List ℤ
written = written_as as_words

-- the same of a sheet
unfoldable pub sheet_reading_by : Manner → List ℕ → List ℤ → Answer × List ℤ
sheet_reading_by m s t = written t (sheet_by m s (length t))

-- by the first edition
abbrev pub sheet_reading : List ℕ → List ℤ → Answer × List ℤ
sheet_reading = sheet_reading_by First

-- a table of n bytes has room for as many records as one of so many words
abbrev pub words_in : ℕ → ℕ
words_in n = n / 64 * 16

-- what reading a sheet into a table of bytes answers, and the table afterwards
unfoldable pub sheet_reading_bytes_by : Manner → List ℕ → List ℕ → Answer × List ℕ
sheet_reading_bytes_by m s t = written_as as_bytes t (sheet_by m s (words_in (length t)))

-- by the first edition
abbrev pub sheet_reading_bytes : List ℕ → List ℕ → Answer × List ℕ
sheet_reading_bytes = sheet_reading_bytes_by First
