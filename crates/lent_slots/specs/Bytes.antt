-- Record words as bytes: 64 to a record, each word little-endian (docs/RULES.md, 5).
use Rattle.std.specs.Prelude.{ℕ, ◌/◌, ◌%◌, List, [], ◌∷◌, ◌++◌, ℤ}
use Rattle.std.specs.Int.{w32}
use Rattle.std.proofs.Common.{of_z}

-- four bytes, the lowest first
unfoldable pub little_endian : ℕ → List ℕ
little_endian n = n % 256 ∷ n / 256 % 256 ∷ n / 65536 % 256 ∷ n / 16777216 ∷ []

-- a word's bytes: `of_z w32 z` is z, or 2 ^ 32 more where z is below 0 (two's complement)
abbrev pub word_bytes : ℤ → List ℕ
word_bytes z = little_endian (of_z w32 z)

-- a record's bytes: its words', one after the other
unfoldable pub record_bytes : List ℤ → List ℕ
record_bytes [] = []
record_bytes (z ∷ zs) = word_bytes z ++ record_bytes zs
