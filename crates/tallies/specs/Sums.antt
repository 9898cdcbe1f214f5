-- Counts added up, with a limit: a sum of which a count passes it is refused with 15 (02, Asks 4 and 13).
use Rattle.std.specs.Prelude.{ℕ, ◌+◌, List, [], ◌∷◌, Bool, true, ◌&&◌, leb, Option, Some, None, if◌then◌else◌}

-- count by count
unfoldable pub plus : List ℕ → List ℕ → List ℕ
plus [] ys = []
plus (x ∷ xs) [] = []
plus (x ∷ xs) (y ∷ ys) = (x + y) ∷ plus xs ys

abbrev pub most : ℕ
most = 4294967295

-- none passes the limit
unfoldable pub all_within : List ℕ → Bool
all_within [] = true
all_within (x ∷ xs) = leb x most && all_within xs

-- the sum; nothing, if one of its counts passes the limit
unfoldable pub sum_within : List ℕ → List ℕ → Option (List ℕ)
sum_within xs ys = if all_within (plus xs ys) then Some (plus xs ys) else None
