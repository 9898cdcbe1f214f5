-- Parts: a quote flips inside and outside, a part ends at a `;` outside (docs/RULES.md, 6).
use Rattle.std.specs.Prelude.{ℕ, zero, suc, ◌+◌, List, [], ◌∷◌, ◌++◌, Bool, true, false, ◌&&◌, not, eqb, length, get_or, take, drop, if◌then◌else◌}
use Rattle.names.specs.Quotes.{flips, inside_of}

-- the length of the part at the start of a text
unfoldable pub part_in : Bool → List ℕ → ℕ
part_in inside [] = 0
part_in inside (b ∷ s) = if eqb b 59 && not inside then 0 else suc (part_in (flips b inside) s)

-- whether a place is a part's beginning: the sheet's, or after a `;` outside
unfoldable pub begins : List ℕ → ℕ → Bool
begins s zero = true
begins s (suc i) = eqb (get_or s i 0) 59 && not (inside_of (take i s))

-- where the part that begins at p ends
unfoldable pub part_end : List ℕ → ℕ → ℕ
part_end s p = p + part_in false (drop p s)

-- the places below n where parts begin, in order
unfoldable pub beginnings : List ℕ → ℕ → List ℕ
beginnings s zero = []
beginnings s (suc n) = beginnings s n ++ (if begins s n then n ∷ [] else [])

-- the places of all parts of a sheet
abbrev pub places : List ℕ → List ℕ
places s = beginnings s (suc (length s))
