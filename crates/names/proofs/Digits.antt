-- Digits one after another, n of them taken.
use Prim.Native.Nat.{ℕ, suc, ◌+◌, ◌-◌, ◌*◌, ◌^◌, ◌≤◌, ◌<◌}
use mathlib.Core.List.{List, []}
use mathlib.Core.Path.{◌≡◌}
use native.Mathlib.Omega.{arith}
use native.Mathlib.Nat.{sub-zero, pow-le-pow_right}
use native.Mathlib.Numerals.{add-one}
use mathlib.Core.Bool.{Bool, true, false}
use lib.Dec.{eqb}
use Rattle.std.specs.Prelude.{Option, Some, None}
use Rattle.names.specs.Read.{got, none, when}
use Rattle.names.specs.Numbers.{digit, enough, up_to, digits}
use Rattle.names.specs.Seen.{seen_num, value}
use Rattle.names.specs.declared.Cursor.{Cursor}

-- none yet
pub digits_start : (least most : ℕ) (s : List ℕ) (i : ℕ) → up_to (most - 0) (least - 0) 0 s i ≡ digits least most s i
unfolding digits
digits_start least most s i = rw (sub-zero most, sub-zero least)

module _ (least most n a : ℕ) (s : List ℕ) (i : ℕ) where
  -- a digit more
  pub digit_more : {d j : ℕ} → n < most → digit s i ≡ got d j → up_to (most - n) (least - n) a s i ≡ up_to (most - (n + 1)) (least - (n + 1)) (a * 10 + d) s j
  unfolding up_to
  digit_more h e =
      let p : most - n ≡ suc (most - (n + 1)) = omega arith in
      let q : least - n - 1 ≡ least - (n + 1) = omega arith in
      rw (p, e, q)

  -- no digit more
  pub digit_none : n < most → digit s i ≡ none → up_to (most - n) (least - n) a s i ≡ enough (least - n) a [] i
  unfolding up_to
  digit_none h e = let p : most - n ≡ suc (most - (n + 1)) = omega arith in rw (p, e)

  -- as many as there may be
  pub digits_full : most ≤ n → up_to (most - n) (least - n) a s i ≡ enough (least - n) a [] i
  unfolding up_to
  digits_full h = let p : most - n ≡ 0 = omega arith in rw p

-- ---- how large the number grows

-- a number of n digits, and one more
pub grown : (n a d : ℕ) → a < 10 ^ n → d ≤ 9 → a * 10 + d < 10 ^ (n + 1)
grown n a d h k = rw add-one (omega arith)

-- a number of fewer digits
pub below : (n most a : ℕ) → n ≤ most → a < 10 ^ n → a ≤ 10 ^ most - 1
below n most a h k = omega (arith, pow-le-pow_right {n = 10} (omega arith) h)

-- what is enough is the number
pub enough_small : (w a i : ℕ) (r : Option (ℕ × Cursor)) → enough w a [] i ≡ seen_num r → value r ≤ a
enough_small w a i r e = go (eqb w 0) r e
  where
    go : (t : Bool) (r : Option (ℕ × Cursor)) → when t (got a i) ≡ seen_num r → value r ≤ a
    go true (Some x) e = let q : a ≡ x.0 = cc in omega arith
    go true None e = omega arith
    go false (Some x) e = let z : ◌≡◌ {A = ℕ} 0 1 = cc in omega arith
    go false None e = omega arith
