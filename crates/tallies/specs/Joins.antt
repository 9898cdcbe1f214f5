-- Two tallies joined: every count is added (02, Ask 13).
use Rattle.std.specs.Prelude.{ℕ, List, [], ◌∷◌, ◌++◌, true, ◌&&◌, ◌≡◌, eqb, length, if◌then◌else◌}
use Rattle.std.proofs.Math.Option.{Option, none, some}
use Rattle.tallies.specs.Sums.{plus, all_within}
use Rattle.tallies.specs.Stored.{counts_in, stored_in}

-- the number, and the counts afterwards: 15 if a sum would pass the limit, and then both stay
unfoldable pub joined_to : List ℕ → List ℕ → ℕ × List ℕ
joined_to xs ys = if all_within (plus xs ys) then (0, plus xs ys) else (15, xs)

-- of bytes: 16 if one has another length than 136
unfoldable pub joined_bytes : List ℕ → List ℕ → ℕ × List ℕ
joined_bytes b other = if eqb (length b) 136 && eqb (length other) 136 then stored_in b (joined_to (counts_in b) (counts_in other)) else (16, b)

-- ---- joining many: as a tree, in any order and grouping

pub data Tree : Type 0 where
  tally : List ℕ → Tree
  join : Tree → Tree → Tree

-- the tallies of a tree, from left to right
unfoldable pub tallies : Tree → List (List ℕ)
tallies (tally xs) = xs ∷ []
tallies (join s t) = tallies s ++ tallies t

-- the counts of a join that is not refused
abbrev pub unrefused : ℕ × List ℕ → Option (List ℕ)
unrefused r = if eqb r.0 0 then some r.1 else none

abbrev pub both : Option (List ℕ) → Option (List ℕ) → Option (List ℕ)
both none y = none
both (some xs) none = none
both (some xs) (some ys) = unrefused (joined_to xs ys)

-- a tree's joins, one after the other: nothing, if one is refused
unfoldable pub joined_all : Tree → Option (List ℕ)
joined_all (tally xs) = some xs
joined_all (join s t) = both (joined_all s) (joined_all t)

-- the same lists in another order
pub data Reordered : List (List ℕ) → List (List ℕ) → Type 0 where
  same : {l : List (List ℕ)} → Reordered l l
  swapped : {x y : List ℕ} {l : List (List ℕ)} → Reordered (x ∷ y ∷ l) (y ∷ x ∷ l)
  after : {x : List ℕ} {l m : List (List ℕ)} → Reordered l m → Reordered (x ∷ l) (x ∷ m)
  through : {l m n : List (List ℕ)} → Reordered l m → Reordered m n → Reordered l n

-- 34 counts, none above the limit
abbrev pub IsTally : List ℕ → Type 0
IsTally xs = (length xs ≡ 34) × (all_within xs ≡ true)

abbrev pub AreTallies : List (List ℕ) → Type 0
AreTallies [] = Unit {0}
AreTallies (x ∷ l) = IsTally x × AreTallies l
