-- Each definition depends on nothing before its place and nothing from a `;` outside quotes on: the lemmas put together as the definitions are.
use Prim.Native.Nat.{ℕ, zero, suc, ◌-◌, ◌*◌, ◌+◌}
use mathlib.Core.List.{List}
use mathlib.Core.Bool.{Bool, false}
use mathlib.Core.Path.{◌≡◌, refl}
use native.Mathlib.Omega.{arith}
use lib.Dec.{eqb, eqb-suc-zero}
use Rattle.names.specs.Tests.{within}
use Rattle.names.specs.Chain.{skip}
use Rattle.names.specs.Texts.{byte, blanks, blank, comma}
use Rattle.names.specs.Numbers.{is_digit, digit, enough, up_to, digits, clock_after, number, year, count, ordinal, short, minutes, hour, minute}
use Rattle.names.proofs.Local.{Stop, keep, Local, loose, pure_local, branch_local, bind_local, then_local, map_local, unless_local, one_local, ahead_local}
use Rattle.names.proofs.Chains.{many_local}

-- a byte that is no quote and no `;`
pub byte_local : {u : List ℕ} (b : ℕ) → eqb b 34 ≡ false → eqb b 59 ≡ false → Local Stop keep u false false 1 (byte b) (byte b)
unfolding byte
byte_local b e f = map_local _ _ (λ x. refl) (one_local (eqb b) e f)

pub skip_local : {u : List ℕ} (p : ℕ → Bool) → p 34 ≡ false → p 59 ≡ false → Local Stop keep u false false 0 (skip p) (skip p)
unfolding skip
skip_local p e f = map_local _ _ (λ x. refl) (many_local (one_local p e f))

pub blanks_local : {u : List ℕ} → Local Stop keep u false false 0 blanks blanks
unfolding blanks
blanks_local = skip_local (eqb 32) refl refl

pub blank_local : {u : List ℕ} → Local Stop keep u false false 1 blank blank
unfolding blank
blank_local = then_local (byte_local 32 refl refl) (λ _. blanks_local)

pub comma_local : {u : List ℕ} → Local Stop keep u false false 1 comma comma
unfolding comma
comma_local = then_local (byte_local 44 refl refl) (λ _. ahead_local _ refl)

pub digit_local : {u : List ℕ} → Local Stop keep u false false 1 digit digit
unfolding digit is_digit within
digit_local = map_local _ _ (λ b. refl) (one_local is_digit refl refl)

-- what was wanted is there
enough_local : {u : List ℕ} (wanted a : ℕ) → Local Stop keep u false false wanted (enough wanted a) (enough wanted a)
enough_local zero a = pure_local a
enough_local (suc w) a = record { ends = λ s v i z p. rw (eqb-suc-zero w) tt; same = λ s v i z p. rw (eqb-suc-zero w); near = λ s i h. rw (eqb-suc-zero w) tt }

pub up_to_local : {u : List ℕ} (n wanted a : ℕ) → Local Stop keep u false false wanted (up_to n wanted a) (up_to n wanted a)
unfolding up_to
up_to_local zero wanted a = enough_local wanted a
up_to_local (suc n) wanted a =
    loose (branch_local {k = wanted - (wanted - 1)} (loose digit_local (omega arith)) (λ d. up_to_local n (wanted - 1) (a * 10 + d)) (loose (enough_local wanted a) (omega arith))) (omega arith)

pub digits_local : {u : List ℕ} (least most : ℕ) → Local Stop keep u false false least (digits least most) (digits least most)
unfolding digits
digits_local least most = up_to_local most least 0

pub clock_after_local : {u : List ℕ} → Local Stop keep u false false 1 clock_after clock_after
unfolding clock_after is_digit within
clock_after_local = bind_local (skip_local is_digit refl refl) (λ _. then_local (byte_local 58 refl refl) (λ _. ahead_local is_digit refl))

pub number_local : {u : List ℕ} (least most : ℕ) → Local Stop keep u false false least (number least most) (number least most)
unfolding number
number_local least most = then_local (digits_local least most) (λ a. then_local (unless_local clock_after_local) (λ _. pure_local a))

module _ {u : List ℕ} where
  pub year_local : Local Stop keep u false false 4 year year
  year_local = number_local 4 4

  pub count_local : Local Stop keep u false false 1 count count
  count_local = number_local 1 5

  pub ordinal_local : Local Stop keep u false false 1 ordinal ordinal
  ordinal_local = number_local 1 1

  pub short_local : Local Stop keep u false false 1 short short
  short_local = number_local 1 2

  pub minutes_local : Local Stop keep u false false 2 minutes minutes
  minutes_local = number_local 2 2

  pub hour_local : Local Stop keep u false false 1 hour hour
  hour_local = digits_local 1 2

  pub minute_local : Local Stop keep u false false 2 minute minute
  minute_local = digits_local 2 2
