-- The cells of words in a table: how many a word has, and that those of more words stand after them.
use Rattle.std.specs.Prelude.{ℕ, ◌*◌, ◌≤◌, List, [], ◌∷◌, ◌++◌, ℤ, ◌≡◌, refl, length}
use native.Mathlib.Omega.{arith}
use Rattle.lent_slots.specs.Bytes.{record_bytes, little_endian}
use Rattle.lent_slots.specs.Tables.{Layout}

pub record CellLaws {A : Type 0} (per_word : ℕ) (cells : List ℤ → List A) : Type 0 where
  pub none : cells [] ≡ []
  pub more : (z : ℤ) (zs : List ℤ) → cells (z ∷ zs) ≡ cells (z ∷ []) ++ cells zs
  pub long : (z : ℤ) → length (cells (z ∷ [])) ≡ per_word
  pub some : 1 ≤ per_word
  pub few : per_word ≤ 4

pub words_laws : CellLaws {A = ℤ} 1 (λ words. words)
words_laws = record { none = refl; more = λ z zs. refl; long = λ z. refl; some = omega arith; few = omega arith }

pub bytes_laws : CellLaws {A = ℕ} 4 record_bytes
unfolding record_bytes little_endian
bytes_laws = record { none = refl; more = λ z zs. refl; long = λ z. refl; some = omega arith; few = omega arith }

-- a slot of n words
abbrev pub Slot : {A : Type 0} → ℕ → (List ℤ → List A) → ℕ → Layout A
Slot per_word cells n = record { cells = cells; width = n * per_word }
