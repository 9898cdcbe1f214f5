-- The fewest digits that hold a number are those of its decimal; how many they are.
use Prim.Native.Nat.{ℕ, zero, suc, ◌-◌, ◌/◌, ◌%◌, ◌^◌, ◌≤◌, ◌<◌}
use mathlib.Core.Bool.{Bool, true, false, cond}
use mathlib.Core.List.{List, [], ◌∷◌, ◌++◌}
use mathlib.Core.Path.{◌≡◌}
use native.Mathlib.Nat.{one-le-pow}
use native.Mathlib.Omega.{arith}
use borrow.Author.Tests.{lt-ltb, le-ltb}
use lib.Dec.{ltb}
use lib.IntN.{ℤ, pos, negsuc}
use lib.ListN.{length, length-append}
use mir.Syntax.{w32}
use mir.Val.{SFits}
use Rattle.io.specs.Digits.{hex_digit_ascii, last_digits, IsDigitCount}
use Rattle.prints.specs.Decimals.{digit, digits_in, decimal, signed}

-- a digit below ten
glyph_digit : (d : ℕ) → d < 10 → hex_digit_ascii d ≡ digit d
glyph_digit d h = rw (lt-ltb d 10 h)

-- a number of two digits or more is not below their power of ten
not_below : (k n : ℕ) → IsDigitCount 10 1 n (suc (suc k)) → 10 ^ suc k ≤ n
not_below k n f = let e : suc (suc k) - 1 ≡ suc k = omega arith in rw e at (f.2 (omega arith))

-- its tenth has one digit less
tenth : (k n : ℕ) → IsDigitCount 10 1 n (suc (suc k)) → IsDigitCount 10 1 (n / 10) (suc k)
tenth k n f = (omega arith, omega (arith, f.1), λ h. let e : suc k - 1 ≡ k = omega arith in rw e (omega (arith, not_below k n f)))

-- by so many tenths
fewest_in : (k tenths n : ℕ) → n ≤ tenths → IsDigitCount 10 1 n k → last_digits 10 k n ≡ digits_in tenths n
unfolding digits_in
fewest_in zero t n h f = absurd (omega arith)
fewest_in (suc zero) zero n h f = let e : n ≡ 0 = omega arith in rw e
fewest_in (suc zero) (suc t) n h f = let l : n < 10 = omega (arith, f.1) in let e : n % 10 ≡ n = omega arith in rw (e, lt-ltb n 10 l)
fewest_in (suc (suc k)) zero n h f = absurd (omega (arith, not_below k n f, one-le-pow (suc k) 10 (omega arith)))
fewest_in (suc (suc k)) (suc t) n h f =
    let l : 10 ≤ n = omega (arith, not_below k n f, one-le-pow k 10 (omega arith)) in
    rw (le-ltb n 10 l, glyph_digit (n % 10) (omega arith), fewest_in (suc k) t (n / 10) (omega arith) (tenth k n f))

-- the digits of the fewest places
pub fewest : (k n : ℕ) → IsDigitCount 10 1 n k → last_digits 10 k n ≡ decimal n
unfolding decimal
fewest k n f = fewest_in k n n (omega arith) f

-- ---- how long a number is

-- one digit, or one more than a tenth
more_most : (k n : ℕ) (tenth : List ℕ) (b : Bool) → length tenth ≤ suc k → length (cond b (digit n ∷ []) (tenth ++ (digit (n % 10) ∷ []))) ≤ suc (suc k)
more_most k n tenth true h = omega arith
more_most k n tenth false h = rw length-append (omega arith)

-- by so many tenths
digits_most : (k tenths n : ℕ) → n < 10 ^ suc k → length (digits_in tenths n) ≤ suc k
unfolding digits_in
digits_most k zero n h = omega arith
digits_most zero (suc t) n h = rw (lt-ltb n 10 (omega (arith, h))) (omega arith)
digits_most (suc k) (suc t) n h = more_most k n (digits_in t (n / 10)) (ltb n 10) (digits_most k t (n / 10) (omega (arith, h)))

-- a number below a power of ten has no more digits than that has noughts
pub decimal_most : (k n : ℕ) → n < 10 ^ suc k → length (decimal n) ≤ suc k
unfolding decimal
decimal_most k n h = digits_most k n n h

-- a word has a sign and ten digits at most
pub signed_most : (z : ℤ) → SFits w32 z → length (signed z) ≤ 11
unfolding signed
signed_most (pos n) f = omega (arith, decimal_most 9 n (omega (arith, f.sfits)))
signed_most (negsuc n) f = omega (arith, decimal_most 9 (suc n) (omega (arith, f.sfits)))
