-- Records in tables, of words and of bytes (docs/RULES.md, 5).
use Rattle.std.specs.Prelude.{ℕ, zero, suc, ◌+◌, ◌*◌, List, [], ◌∷◌, ltb, ℤ, length, take, drop, if◌then◌else◌}
use Rattle.std.proofs.lemmas.List.Edits.{sets}
use Rattle.lent_slots.specs.Bytes.{record_bytes}

-- how records lie in a table: the cells of a record's words, and how many cells a slot has
pub record Layout (A : Type 0) : Type 0 where
  pub cells : List ℤ → List A
  pub width : ℕ

-- in a table of words: 16 to a record
abbrev pub as_words : Layout ℤ
as_words = record { cells = λ r. r; width = 16 }

-- in a table of bytes: 64 to a record, each word little-endian
abbrev pub as_bytes : Layout ℕ
as_bytes = record { cells = record_bytes; width = 64 }

-- a table with these records written over it from slot k on
unfoldable pub laid : {A : Type 0} → Layout A → List A → ℕ → List (List ℤ) → List A
laid d t k [] = t
laid d t k (r ∷ rs) = laid d (sets t (k * d.width) (d.cells r)) (suc k) rs

-- the same, 16 words to a slot
abbrev pub overlay : List ℤ → ℕ → List (List ℤ) → List ℤ
overlay = laid as_words

-- a table with a record in slot k, where it has that slot
unfoldable pub kept : {A : Type 0} → Layout A → List A → ℕ → List ℤ → List A
kept d t k r = if ltb (length t) (k * d.width + d.width) then t else sets t (k * d.width) (d.cells r)

-- a table of words, and one of bytes
abbrev pub Tables : Type 0
Tables = List ℤ × List ℕ

-- a record in slot k of each, where it has that slot
abbrev pub kept_in : Tables → ℕ → List ℤ → Tables
kept_in t k r = (kept as_words t.0 k r, kept as_bytes t.1 k r)

-- these records in their slots, one after the other from slot k on
unfoldable pub all_kept : Tables → ℕ → List (List ℤ) → Tables
all_kept t k [] = t
all_kept t k (r ∷ rs) = all_kept (kept_in t k r) (suc k) rs

-- the first n records of a table of words
unfoldable pub records_in : ℕ → List ℤ → List (List ℤ)
records_in zero t = []
records_in (suc n) t = take 16 t ∷ records_in n (drop 16 t)
