-- Names that are written one after another: what the search goes by.
use Rattle.std.specs.Prelude.{if◌then◌else◌}
use Rattle.std.specs.List.{list_all, enumerate_from}
use Prim.Native.Nat.{ℕ, ◌+◌, ◌≤◌, ◌<◌}
use mathlib.Core.Bool.{Bool, true, false}
use mathlib.Core.List.{List, [], ◌∷◌}
use mathlib.Core.Path.{◌≡◌, refl, ◌∙◌}
use native.Mathlib.Nat.{add_assoc}
use lib.Dec.{eqb}
use native.Mathlib.Numerals.{add-one}
use lib.ListN.{length, get_or, drop, drop_of_length-le}
use lib.Seq.{drop-cons}
use Rattle.names.specs.Read.{Read, got, none, when}
use Rattle.names.specs.Names.{Word}
use Rattle.names.specs.Table.{compared, stand, first_in, rows}

-- whether the letter with this number stands where the name begins at i
abbrev pub letter_at : ℕ → List ℕ → ℕ → ℕ × ℕ → Bool
letter_at kind s i x = eqb (compared kind (get_or s (i + x.0) 0)) x.1

-- so do all letters
pub all_stand : (kind : ℕ) (s : List ℕ) (i n : ℕ) (xs : List ℕ) → list_all (letter_at kind s i) (enumerate_from n xs) ≡ stand kind xs s (i + n)
unfolding stand
all_stand kind s i n [] = refl
all_stand kind s i n (x ∷ xs) = rw (all_stand kind s i (n + 1) xs, add_assoc i n 1)

-- names of a kind, the first of which has the value v, and a place
module _ (kind first : ℕ) (names : List (List ℕ)) (s : List ℕ) (i : ℕ) where
  -- what the search finds from the name with this number on
  abbrev pub from_name : ℕ → Read Word
  from_name k = first_in (rows kind (first + k) (drop k names)) s i

  module _ {k : ℕ} (h : k < length names) (x : List ℕ) (e : x ≡ get_or names k x) where
    -- it stands here, or those after it are left
    this : from_name k ≡ (if stand kind x s i then got (kind, first + k) (i + length x) else from_name (k + 1))
    unfolding rows first_in
    this = rw (drop-cons names k x h, ← e, add_assoc first k 1, add-one k)

    pub found : {j : ℕ} → when (stand kind x s i) (got (tt {0}) (i + length x)) ≡ got tt j → from_name k ≡ got (kind, first + k) j
    found {j} q = this ∙ go (stand kind x s i) q
      where
        go : (t : Bool) → when t (got (tt {0}) (i + length x)) ≡ got tt j → (if t then got (kind, first + k) (i + length x) else from_name (k + 1)) ≡ got (kind, first + k) j
        go true p = cc
        go false p = cc

    pub passed : when (stand kind x s i) (got (tt {0}) (i + length x)) ≡ none → from_name k ≡ from_name (k + 1)
    passed q = this ∙ go (stand kind x s i) q
      where
        go : (t : Bool) → when t (got (tt {0}) (i + length x)) ≡ none → (if t then got (kind, first + k) (i + length x) else from_name (k + 1)) ≡ from_name (k + 1)
        go true p = cc
        go false p = refl

  -- none is left
  pub over : {k : ℕ} → length names ≤ k → from_name k ≡ none
  unfolding rows first_in
  over h = rw (drop_of_length-le names h)
