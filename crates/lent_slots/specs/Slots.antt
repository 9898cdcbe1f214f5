-- The records of a table that is lent as words or as bytes, slot by slot (docs/RULES.md, 5).
use Rattle.std.specs.Prelude.{ℕ, zero, suc, ◌+◌, ◌*◌, ◌/◌, ◌%◌, List, [], ◌∷◌, Bool, eqb, ℤ, length, take, drop, get_or, if◌then◌else◌}
use Rattle.std.specs.Int.{w32}
use Rattle.std.proofs.Common.{to_z}
use Rattle.lent_slots.specs.Tables.{Tables}

-- the number in four bytes from p on, the lowest first
unfoldable pub number_from : List ℕ → ℕ → ℕ
number_from b p = get_or b p 0 + get_or b (p + 1) 0 * 256 + get_or b (p + 2) 0 * 65536 + get_or b (p + 3) 0 * 16777216

-- the word: `to_z w32 n` is n, or 2 ^ 32 less from 2 ^ 31 on (two's complement)
abbrev pub word_from : List ℕ → ℕ → ℤ
word_from b p = to_z w32 (number_from b p)

-- n words from there on
unfoldable pub words_from : ℕ → List ℕ → ℕ → List ℤ
words_from zero b p = []
words_from (suc n) b p = word_from b p ∷ words_from n b (p + 4)

-- a lent table is of words, and the bytes are none, or it is of bytes
abbrev pub is_words : Tables → Bool
is_words t = eqb (length t.1) 0

-- the record in a slot
unfoldable pub record_at : Tables → ℕ → List ℤ
record_at t k = if is_words t then take 16 (drop (k * 16) t.0) else words_from 16 t.1 (k * 64)

-- how many slots there are, and whether nothing is left over
unfoldable pub slots : Tables → ℕ
slots t = if is_words t then length t.0 / 16 else length t.1 / 64

unfoldable pub is_whole : Tables → Bool
is_whole t = if is_words t then eqb (length t.0 % 16) 0 else eqb (length t.1 % 64) 0

-- n records from slot k on
unfoldable pub records_from : Tables → ℕ → ℕ → List (List ℤ)
records_from t zero k = []
records_from t (suc n) k = record_at t k ∷ records_from t n (suc k)

abbrev pub records_of : Tables → List (List ℤ)
records_of t = records_from t (slots t) 0
