-- The names as the code writes and compares them.
use Rattle.std.specs.Prelude.{ℕ, ◌+◌, List, [], ◌∷◌, Bool, true, ◌&&◌, eqb, length, get_or, if◌then◌else◌}
use Rattle.std.specs.Int.Bits.{bit_or}
use Rattle.names.specs.Read.{Read, got, none, refused, Reader}
use Rattle.names.specs.Names.{Row, Word, spelled_so}

-- with the bit 32: a capital becomes its small letter, and nothing but a letter becomes a letter
unfoldable pub fold : ℕ → ℕ
fold b = bit_or b 32

-- as what a byte of the text is compared with a letter of a name of this kind
unfoldable pub compared : ℕ → ℕ → ℕ
compared kind b = if spelled_so kind then b else fold b

-- whether these letters of a name of this kind stand here, compared so
unfoldable pub stand : ℕ → List ℕ → List ℕ → ℕ → Bool
stand kind [] s i = true
stand kind (x ∷ xs) s i = eqb (compared kind (get_or s i 0)) x && stand kind xs s (i + 1)

-- the first of these names that stands here, compared so
unfoldable pub first_in : List Row → Reader Word
first_in [] s i = none
first_in (r ∷ rs) s i = if stand r.1.0 r.0 s i then got r.1 (i + length r.0) else first_in rs s i

-- what was found before, or else this
abbrev pub or_else : Read Word → Read Word → Read Word
or_else (got w j) r = got w j
or_else none r = r
or_else (refused k p) r = refused k p

-- these names of a kind: the first has the value v, each later one 1 more
unfoldable pub rows : ℕ → ℕ → List (List ℕ) → List Row
rows kind v [] = []
rows kind v (x ∷ xs) = (x, (kind, v)) ∷ rows kind (v + 1) xs
