-- Laws that the code's own steps go by: answers, and a byte of a range.
use Prim.Native.Nat.{ℕ, ◌+◌, ◌≤◌, ◌<◌}
use mathlib.Core.Bool.{true, false}
use mathlib.Core.List.{List}
use mathlib.Core.Path.{◌≡◌}
use native.Mathlib.Omega.{arith}
use native.Mathlib.Decide.{dec_lt}
use lib.ListN.{length, get_or}
use Rattle.names.specs.Tests.{within}
use Rattle.names.specs.Read.{got, none}
use Rattle.names.proofs.Laws.{one_got, one_other, one_past, within_true}
use Rattle.utf8.specs.Utf8.{octet}

-- nothing found is no place, and one answer has one place
pub after_blank : {j : ℕ} → none ≡ got (tt {0}) j → ⊥
after_blank e = let z : ◌≡◌ {A = ℕ} 0 1 = cc in omega arith

pub same_place : {i j : ℕ} → got (tt {0}) i ≡ got tt j → j ≡ i
same_place e = cc

-- ---- a byte of a range

module _ (lo hi : ℕ) (s : List ℕ) (i : ℕ) where
  -- from what a test says of it
  pub octet_got : i < length s → within lo hi (get_or s i 0) ≡ true → octet lo hi s i ≡ got tt (i + 1)
  unfolding octet
  octet_got h e = rw (one_got (within lo hi) s i h e)

  pub octet_other : i < length s → within lo hi (get_or s i 0) ≡ false → octet lo hi s i ≡ none
  unfolding octet
  octet_other h e = rw (one_other (within lo hi) s i h e)

  pub octet_past : length s ≤ i → octet lo hi s i ≡ none
  unfolding octet
  octet_past h = rw (one_past (within lo hi) s i h)

  -- from its bounds
  pub octet_is : i < length s → lo ≤ get_or s i 0 → get_or s i 0 ≤ hi → octet lo hi s i ≡ got tt (i + 1)
  octet_is h a b = octet_got h (within_true lo hi _ a b)

  -- outside of the range, or past the end
  pub octet_not : within lo hi (get_or s i 0) ≡ false → octet lo hi s i ≡ none
  octet_not e = go (dec_lt i (length s))
    where
      go : Dec (i < length s) → octet lo hi s i ≡ none
      go (yes h) = octet_other h e
      go (no h) = octet_past (omega arith)
