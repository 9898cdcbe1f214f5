-- Lines of numbers.
use Rattle.std.specs.Prelude.{ℕ, List, [], ◌∷◌, ◌++◌, ℤ}
use Prim.Native.Char.{code}
use Rattle.prints.specs.Decimals.{signed}

-- the byte after a number, by those that follow it: a single space, or the line's end, byte 10
abbrev pub after : List ℤ → ℕ
after [] = code "\n"
after (z ∷ zs) = code " "

-- numbers on a line
unfoldable pub line : List ℤ → List ℕ
line [] = []
line (z ∷ zs) = signed z ++ (after zs ∷ line zs)

-- one line each
unfoldable pub lines : List (List ℤ) → List ℕ
lines [] = []
lines (r ∷ rs) = line r ++ lines rs
