-- A line, by its numbers but the last.
use Prim.Native.Nat.{ℕ}
use Prim.Native.Char.{code}
use mathlib.Core.List.{List, [], ◌∷◌, ◌++◌, append_assoc, append-nil}
use mathlib.Core.Path.{◌≡◌, refl}
use lib.IntN.{ℤ}
use lib.ListN.{length}
use native.Mathlib.Omega.{arith}
use Rattle.prints.specs.Decimals.{signed}
use Rattle.prints.specs.Lines.{after, line, lines}

-- numbers, a space after each
unfoldable pub spaced : List ℤ → List ℕ
spaced [] = []
spaced (z ∷ zs) = signed z ++ (code " " ∷ spaced zs)

-- one more
pub spaced_more : (zs : List ℤ) (z : ℤ) → spaced (zs ++ z ∷ []) ≡ (spaced zs ++ signed z) ++ (code " " ∷ [])
unfolding spaced
spaced_more [] z = refl
spaced_more (y ∷ ys) z = rw (spaced_more ys z) (simp append_assoc)

-- a space stands before another
after_more : (zs : List ℤ) (z : ℤ) → after (zs ++ z ∷ []) ≡ code " "
after_more [] z = refl
after_more (y ∷ ys) z = refl

-- the last, and the line's end
pub line_of : (zs : List ℤ) (z : ℤ) → line (zs ++ z ∷ []) ≡ (spaced zs ++ signed z) ++ (code "\n" ∷ [])
unfolding line spaced
line_of [] z = refl
line_of (y ∷ ys) z = rw (after_more ys z, line_of ys z) (simp append_assoc)

-- no numbers
pub line_none : (zs : List ℤ) → length zs ≡ 0 → [] ≡ line zs
unfolding line
line_none [] h = refl
line_none (z ∷ zs) h = absurd (omega arith)

-- the lines of one record more
pub lines_more : (rs : List (List ℤ)) (r : List ℤ) → lines (rs ++ r ∷ []) ≡ lines rs ++ line r
unfolding lines
lines_more [] r = append-nil _
lines_more (s ∷ rs) r = rw (lines_more rs r) (simp append_assoc)
