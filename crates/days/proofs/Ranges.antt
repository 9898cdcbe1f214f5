-- The range of a number of days is the rules' own (docs/RULES.md, 4).
use Prim.Native.Nat.{ℕ, zero, suc}
use mathlib.Core.Bool.{Bool, true, false}
use mathlib.Core.Path.{◌≡◌, refl}
use native.Mathlib.Omega.{arith}
use borrow.Author.Tests.{leb-true, lt-ltb}
use Rattle.records.specs.Items.{good_count}
use Rattle.days.specs.Offsets.{days_of, good_days}

-- days are in range where N is, whether they are added or taken off
days_range : (negative : Bool) (n : ℕ) → good_days (days_of negative n) ≡ good_count n
days_range negative n = go negative n _ refl
  where
    go : (negative : Bool) (n : ℕ) (t : Bool) → good_count n ≡ t → good_days (days_of negative n) ≡ t
    go false n true e = rw e
    go true zero true e = refl
    go true (suc n) true e = rw e (lt-ltb n 32767 (omega (arith, leb-true (suc n) 32767 e)))
    go negative n false e = rw e
