-- A number that is added, or taken off.
use mathlib.Core.Path.{◌≡◌, refl, ap, ◌∙◌}
use Prim.Native.Nat.{ℕ, suc, ◌-◌}
use mathlib.Core.Logic.{◌≢◌}
use native.Mathlib.Omega.{arith}
use borrow.Author.Tests.{le-ltb, ne_eqb}
use lib.IntN.{ℤ, pos, negsuc, nat_abs}
use lib.Dec.{eqb}
use lib.Signed.{lt_z}
use mir.Syntax.{w16}
use mir.Val.{SFits, of_z, to_z}
use mir.Facts.{to_z-of_z}
use Rattle.sheet_texts.specs.Numbers.{is_minus}

-- whether it is taken off
minus_is : (x : ℤ) → lt_z x (pos 0) ≡ is_minus x
minus_is (pos n) = le-ltb n 0 (omega arith)
minus_is (negsuc n) = refl

-- it is 0 where its bits are
none : (x : ℤ) → SFits w16 x → eqb (of_z w16 x) 0 ≡ eqb (nat_abs x) 0
none (pos n) f = refl
none (negsuc n) f = let e : 65536 - suc n ≢ 0 = omega (arith, f.sfits) in let g : suc n ≢ 0 = omega arith in rw (ne_eqb (65536 - suc n) 0 e, ne_eqb (suc n) 0 g)

module _ {x : ℤ} (f : SFits w16 x) where
  pub minus : lt_z (to_z w16 (of_z w16 x)) (pos 0) ≡ is_minus x
  minus = rw (to_z-of_z f) (minus_is x)

  -- its size
  pub size : {n : ℕ} → n ≡ nat_abs (to_z w16 (of_z w16 x)) → n ≡ nat_abs x
  size e = e ∙ ap nat_abs (to_z-of_z f)

  -- whether it has none
  pub no_size : eqb (of_z w16 x) 0 ≡ eqb (nat_abs x) 0
  no_size = none x f
