-- The sheets that document 01 marks with P, and the parts of one of them: one table, proved by one statement that the checker computes.
-- The answers are those of document 01, with every word as tools/reference.py writes it.
use Prim.Native.Nat.{ℕ, ◌-◌}
use mathlib.Core.List.{List, [], ◌∷◌, ◌++◌, map}
use mathlib.Core.Path.{◌≡◌, refl}
use mathlib.Core.Bool.{Bool, true, false}
use lib.IntN.{ℤ, pos}
use lib.ListN.{length, replicate}
use Rattle.names.specs.Texts.{bytes}
use Rattle.sheet.specs.Sheets.{sheet_of}
use Rattle.sheet.specs.PartReadings.{part_of}
use Rattle.c_calls.specs.Calls.{flag, sheet_numbers, part_numbers}
use Rattle.opened.proofs.Opened.{opened}

-- what is read: the whole sheet; or the part at a place, whose answer also has the next part's place and whether it is the last
pub data Asked : Type 0 where
  whole : Asked
  part : (at next : ℕ) (last : Bool) → Asked

-- a sheet, what is read of it, and the answer
pub record Row : Type 0 where
  pub sheet : List ℕ
  pub asked : Asked
  pub number : ℕ
  pub place : ℕ
  pub warnings : ℕ
  pub records : List (ℕ × List ℤ)

-- the words of the table
abbrev room : ℕ
room = 8192

-- the numbers and the records that the definition computes
abbrev computed : List ℕ → Asked → List ℕ × List (List ℤ)
computed s whole = (sheet_numbers (sheet_of s room).0, (sheet_of s room).1)
computed s (part at next last) = (part_numbers (part_of s at room).0, (part_of s at room).1)

-- and those of a row, which has a record's place and then its words, without the zeros after them
abbrev more : Asked → List ℕ
more whole = []
more (part at next last) = next ∷ flag last ∷ []

abbrev padded : ℕ × List ℤ → List ℤ
padded (place, ws) = ws ++ replicate (15 - length ws) (pos 0) ++ (pos place ∷ [])

abbrev said : Row → List ℕ × List (List ℤ)
said r = (r.number ∷ r.place ∷ length r.records ∷ r.warnings ∷ more r.asked, map padded r.records)

-- the table
unfoldable pub rows : List Row
rows =
    record {
      sheet = bytes "2020 Dec 25-05";
      asked = whole;
      number = 0;
      place = 0;
      warnings = 0;
      records = (0, pos 1 ∷ pos 0 ∷ pos 0 ∷ pos 0 ∷ pos 0 ∷ pos 1 ∷ []) ∷
          (0, pos 4 ∷ pos 1 ∷ pos 2020 ∷ pos 12 ∷ pos 25 ∷ pos 0 ∷ pos 0 ∷ pos 0 ∷ pos 1 ∷ pos 2021 ∷ pos 1 ∷ pos 5 ∷ []) ∷ [];
    }
    ∷ record {
      sheet = bytes "Dec 25-25";
      asked = whole;
      number = 0;
      place = 0;
      warnings = 0;
      records = (0, pos 1 ∷ pos 0 ∷ pos 0 ∷ pos 0 ∷ pos 0 ∷ pos 1 ∷ []) ∷
          (0, pos 4 ∷ pos 1 ∷ pos 0 ∷ pos 12 ∷ pos 25 ∷ pos 0 ∷ pos 0 ∷ pos 0 ∷ pos 1 ∷ pos 0 ∷ pos 12 ∷ pos 25 ∷ []) ∷ [];
    }
    ∷ record {
      sheet = bytes "9999 Dec 31-01";
      asked = whole;
      number = 0;
      place = 0;
      warnings = 0;
      records = (0, pos 1 ∷ pos 0 ∷ pos 0 ∷ pos 0 ∷ pos 0 ∷ pos 1 ∷ []) ∷
          (0, pos 4 ∷ pos 1 ∷ pos 9999 ∷ pos 12 ∷ pos 31 ∷ pos 0 ∷ pos 0 ∷ pos 0 ∷ pos 1 ∷ pos 10000 ∷ pos 1 ∷ pos 1 ∷ []) ∷ [];
    }
    ∷ record { sheet = bytes "easter-05"; asked = whole; number = 9; place = 0; warnings = 0; records = [] }
    ∷ record { sheet = bytes "10:00"; asked = whole; number = 8; place = 0; warnings = 0; records = [] }
    ∷ record { sheet = bytes "10:00-12:00/24:00"; asked = whole; number = 4; place = 0; warnings = 0; records = [] }
    ∷ record {
      sheet = bytes "Fr[3-1]";
      asked = whole;
      number = 0;
      place = 0;
      warnings = 0;
      records = (0, pos 1 ∷ pos 0 ∷ pos 0 ∷ pos 0 ∷ pos 0 ∷ pos 1 ∷ []) ∷
          (0, pos 6 ∷ pos 5 ∷ pos 5 ∷ pos 0 ∷ pos 31 ∷ pos 31 ∷ []) ∷ [];
    }
    ∷ record {
      sheet = bytes "Fr[3-1,2]";
      asked = whole;
      number = 0;
      place = 0;
      warnings = 0;
      records = (0, pos 1 ∷ pos 0 ∷ pos 0 ∷ pos 0 ∷ pos 0 ∷ pos 1 ∷ []) ∷
          (0, pos 6 ∷ pos 5 ∷ pos 5 ∷ pos 0 ∷ pos 2 ∷ []) ∷ [];
    }
    ∷ record { sheet = bytes "week 5-1/256"; asked = whole; number = 5; place = 5; warnings = 0; records = [] }
    ∷ record { sheet = bytes "week 5-1/255"; asked = whole; number = 7; place = 5; warnings = 0; records = [] }
    ∷ record { sheet = bytes "2021-2020"; asked = whole; number = 6; place = 0; warnings = 0; records = [] }
    ∷ record {
      sheet = bytes "2020-2022/2";
      asked = whole;
      number = 0;
      place = 0;
      warnings = 0;
      records = (0, pos 1 ∷ pos 0 ∷ pos 0 ∷ pos 0 ∷ pos 0 ∷ pos 1 ∷ []) ∷
          (0, pos 2 ∷ pos 2020 ∷ pos 2022 ∷ pos 2 ∷ []) ∷ [];
    }
    ∷ record {
      sheet = bytes "2020-2022/3";
      asked = whole;
      number = 0;
      place = 0;
      warnings = 0;
      records = (0, pos 1 ∷ pos 0 ∷ pos 0 ∷ pos 0 ∷ pos 0 ∷ pos 1 ∷ []) ∷
          (0, pos 2 ∷ pos 2020 ∷ pos 2022 ∷ pos 1 ∷ []) ∷ [];
    }
    ∷ record { sheet = bytes ""; asked = whole; number = 11; place = 0; warnings = 0; records = [] }
    ∷ record { sheet = bytes "Mo;; Tu"; asked = whole; number = 11; place = 3; warnings = 0; records = [] }
    ∷ record {
      sheet = bytes "Mo,Tu";
      asked = whole;
      number = 0;
      place = 0;
      warnings = 0;
      records = (0, pos 1 ∷ pos 0 ∷ pos 0 ∷ pos 0 ∷ pos 0 ∷ pos 2 ∷ []) ∷
          (0, pos 6 ∷ pos 1 ∷ pos 1 ∷ pos 0 ∷ pos 31 ∷ pos 31 ∷ []) ∷ (3, pos 6 ∷ pos 2 ∷ pos 2 ∷ pos 0 ∷ pos 31 ∷ pos 31 ∷ []) ∷ [];
    }
    ∷ record {
      sheet = bytes "Mo, Tu";
      asked = whole;
      number = 0;
      place = 0;
      warnings = 0;
      records = (0, pos 1 ∷ pos 0 ∷ pos 0 ∷ pos 0 ∷ pos 0 ∷ pos 1 ∷ []) ∷
          (0, pos 6 ∷ pos 1 ∷ pos 1 ∷ pos 0 ∷ pos 31 ∷ pos 31 ∷ []) ∷ (4, pos 1 ∷ pos 1 ∷ pos 0 ∷ pos 0 ∷ pos 0 ∷ pos 1 ∷ []) ∷
          (4, pos 6 ∷ pos 2 ∷ pos 2 ∷ pos 0 ∷ pos 31 ∷ pos 31 ∷ []) ∷ [];
    }
    ∷ record {
      sheet = bytes "Mo;; Tu";
      asked = part 0 3 false;
      number = 0;
      place = 0;
      warnings = 0;
      records = (0, pos 1 ∷ pos 0 ∷ pos 0 ∷ pos 0 ∷ pos 0 ∷ pos 1 ∷ []) ∷
          (0, pos 6 ∷ pos 1 ∷ pos 1 ∷ pos 0 ∷ pos 31 ∷ pos 31 ∷ []) ∷ [];
    }
    ∷ record { sheet = bytes "Mo;; Tu"; asked = part 3 4 false; number = 11; place = 3; warnings = 0; records = [] }
    ∷ record {
      sheet = bytes "Mo;; Tu";
      asked = part 4 0 true;
      number = 0;
      place = 0;
      warnings = 0;
      records = (5, pos 1 ∷ pos 0 ∷ pos 0 ∷ pos 0 ∷ pos 0 ∷ pos 1 ∷ []) ∷
          (5, pos 6 ∷ pos 2 ∷ pos 2 ∷ pos 0 ∷ pos 31 ∷ pos 31 ∷ []) ∷ [];
    }
    ∷ []

-- every row is right
pub proved : map (λ (r : Row). computed r.sheet r.asked) rows ≡ map said rows
unfolding rows opened
proved = refl
