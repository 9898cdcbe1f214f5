-- What has to be believed of the search for a name: the name that it finds stands there, and no longer name of the table does.
use Rattle.std.specs.Prelude.{ℕ, ◌+◌, ◌≤◌, List, [], ◌∷◌, ◌⊎◌, ◌≡◌, length}
use Rattle.names.specs.Read.{Read, got, none, refused}
use Rattle.names.specs.Texts.{all_of}
use Rattle.names.specs.Names.{Row, Word, letter}

-- r is one of these names
abbrev pub Among : Row → List Row → Type 0
Among r [] = ⊥
Among r (q ∷ qs) = (r ≡ q) ⊎ Among r qs

-- the letters of a name stand here, one after another
abbrev pub Stands : List ℕ → ℕ → Row → Type 0
Stands s i r = all_of (letter r.1.0) r.0 s i ≡ got tt (i + length r.0)

-- w and j are the kind and value of the longest of these names that stands here, and the place after it
pub record Found (s : List ℕ) (i : ℕ) (rs : List Row) (w : Word) (j : ℕ) : Type 0 where
  pub name : Row
  pub among : Among name rs
  pub stands : Stands s i name
  pub longest : (q : Row) → Among q rs → Stands s i q → length q.0 ≤ length name.0
  pub says : w ≡ name.1
  pub end : j ≡ i + length name.0

-- what a search among these names may answer: the longest that stands here, or nothing where none does
abbrev pub Right : List ℕ → ℕ → List Row → Read Word → Type 0
Right s i rs (got w j) = Found s i rs w j
Right s i rs none = (q : Row) → Among q rs → Stands s i q → ⊥
Right s i rs (refused k p) = ⊥
