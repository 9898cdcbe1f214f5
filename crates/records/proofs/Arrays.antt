-- An array is the list of its words, as the code reads them one by one.
use Prim.Native.Nat.{ℕ, zero, suc, ◌+◌, ◌<◌}
use native.Mathlib.Omega.{arith}
use mathlib.Core.List.{List, [], ◌∷◌}
use mathlib.Core.Path.{◌≡◌, sym}
use lib.IntN.{ℤ, pos}
use lib.ListN.{length, get_or, drop, drop_of_length-le}
use lib.Seq.{drop-cons}

-- n words from word k on
abbrev pub words_from : List ℤ → ℕ → ℕ → List ℤ
words_from w k zero = []
words_from w k (suc n) = get_or w k (pos 0) ∷ words_from w (suc k) n

listed_from : (w : List ℤ) (k n : ℕ) → k + n ≡ length w → words_from w k n ≡ drop k w
listed_from w k zero e = sym (drop_of_length-le w (omega arith))
listed_from w k (suc n) e = let h : k < length w = omega arith in rw (drop-cons w k (pos 0) h, listed_from w (suc k) n (omega arith))

pub listed : (n : ℕ) (w : List ℤ) → length w ≡ n → words_from w 0 n ≡ w
listed n w l = listed_from w 0 n (omega arith)
