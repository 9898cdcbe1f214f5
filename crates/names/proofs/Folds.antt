-- Folded bytes.
use Prim.Native.Nat.{ℕ, ◌+◌, ◌*◌, ◌/◌, ◌%◌, ◌≤◌, ◌<◌}
use mathlib.Core.Logic.{◌↔◌}
use mathlib.Core.Path.{◌≡◌, sym, ap, ◌∙◌}
use native.Mathlib.Omega.{arith}
use native.Mathlib.Decide.{dec_lt}
use lib.Bits.{or_add_and, and_high}
use Rattle.names.specs.Names.{lower}
use Rattle.names.specs.Table.{fold}
use Rattle.names.proofs.Laws.{within_true, within_below, within_above}

-- folding adds 32 where the bit 32 is not there
fold_is : (b : ℕ) → fold b + b / 32 % 2 * 32 ≡ b + 32
unfolding fold
fold_is b = ap (λ (n : ℕ). fold b + n) (sym (and_high b 1 5)) ∙ or_add_and b 32

-- folding tells a small letter as lowering does
pub tells : (b x : ℕ) → 97 ≤ x → x ≤ 122 → (fold b ≡ x) ↔ (lower b ≡ x)
unfolding lower
tells b x h l = go (dec_lt b 65) (dec_lt 90 b)
  where
    go : Dec (b < 65) → Dec (90 < b) → (fold b ≡ x) ↔ (lower b ≡ x)
    go (yes p) q = rw (within_below 65 90 b p) (omega (arith, fold_is b))
    go (no p) (yes q) = rw (within_above 65 90 b (omega arith) q) (omega (arith, fold_is b))
    go (no p) (no q) = rw (within_true 65 90 b (omega arith) (omega arith)) (omega (arith, fold_is b))
