-- The lines of a feed: many sheets, one a line, parted by byte 10 (docs/RULES.md, 7).
use Rattle.std.specs.Prelude.{ℕ, List, [], ◌∷◌, eqb, if◌then◌else◌}

-- a byte other than 10 stands in the first of the lines that the feed has from there on
abbrev pub in_first : ℕ → List (List ℕ) → List (List ℕ)
in_first b [] = (b ∷ []) ∷ []
in_first b (l ∷ ls) = (b ∷ l) ∷ ls

-- byte 10 ends a line, inside quotes too, and every other byte is of a line; so a final byte 10 starts no line, and an empty feed has none
unfoldable pub lines : List ℕ → List (List ℕ)
lines [] = []
lines (b ∷ s) = if eqb b 10 then [] ∷ lines s else in_first b (lines s)
