-- Tables of bytes and tables of words.
use Rattle.std.specs.Prelude.{ℕ, ◌*◌, ◌<◌, List, [], ◌∷◌, ◌++◌, ◌≡◌, ℤ, length}
use Rattle.std.specs.Int.{w32}
use Rattle.std.proofs.Common.{SFits}
use Rattle.lent_slots.specs.Bytes.{record_bytes}

-- each is a byte
abbrev pub AllBytes : List ℕ → Type 0
AllBytes [] = Unit {0}
AllBytes (b ∷ l) = (b < 256) × AllBytes l

-- each is a word: a number that 32 bits hold, with its sign
abbrev pub AllWords : List ℤ → Type 0
AllWords [] = Unit {0}
AllWords (z ∷ l) = SFits w32 z × AllWords l

-- a table of bytes is the bytes of a table of words that has some number of whole records, and fewer bytes than a record's after them
pub record BytesOfWords (t : List ℕ) : Type 0 where
  pub words : List ℤ
  pub rest : List ℕ
  pub records : ℕ
  pub all_words : AllWords words
  pub whole : length words ≡ records * 16
  pub short : length rest < 64
  pub same : record_bytes words ++ rest ≡ t
