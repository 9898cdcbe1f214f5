-- A word in decimal, by its size.
use Prim.Native.Char.{code}
use mathlib.Core.Bool.{true, false}
use mathlib.Core.List.{◌∷◌}
use mathlib.Core.Path.{◌≡◌, refl}
use native.Mathlib.Omega.{arith}
use lib.IntN.{ℤ, pos, negsuc, nat_abs}
use lib.Signed.{lt_z}
use borrow.Author.Tests.{ltb-true}
use Rattle.prints.specs.Decimals.{decimal, signed}

-- one below 0 has a sign
pub signed_below : (z : ℤ) → lt_z z (pos 0) ≡ true → signed z ≡ code "-" ∷ decimal (nat_abs z)
unfolding signed
signed_below (pos n) e = absurd (omega (arith, ltb-true n 0 e))
signed_below (negsuc n) e = refl

-- any other has none
pub signed_plain : (z : ℤ) → lt_z z (pos 0) ≡ false → signed z ≡ decimal (nat_abs z)
unfolding signed
signed_plain (pos n) e = refl
signed_plain (negsuc n) e = cc
