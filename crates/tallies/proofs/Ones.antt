-- The ones of a mask are the ordinals that it flags.
use Prim.Native.Nat.{ℕ, ◌+◌, ◌*◌, ◌/◌, ◌%◌, ◌≤◌}
use native.Mathlib.Nat.{mul_assoc}
use native.Mathlib.Omega.{arith}
use mathlib.Core.Path.{◌≡◌, sym, ap, ◌∙◌}
use lib.Count.{ones, ones_step, ones-le}
use Rattle.tallies.specs.Counts.{flagged_in}

pub ones_flagged : (m : ℕ) → m ≤ 31 → ones m ≡ flagged_in m
unfolding flagged_in ones
ones_flagged m h =
    let e2 : m / 2 / 2 ≡ m / 4 = omega arith in
    let e3 : m / 4 / 2 ≡ m / 8 = omega arith in
    let e4 : m / 8 / 2 ≡ m / 16 = omega arith in
    let e5 : m / 16 / 2 ≡ 0 = omega arith in
    let s1 : ones m ≡ m % 2 + ones (m / 2) = ones_step m in
    let s2 : ones (m / 2) ≡ m / 2 % 2 + ones (m / 4) = ones_step (m / 2) ∙ ap (λ n. m / 2 % 2 + ones n) e2 in
    let s3 : ones (m / 4) ≡ m / 4 % 2 + ones (m / 8) = ones_step (m / 4) ∙ ap (λ n. m / 4 % 2 + ones n) e3 in
    let s4 : ones (m / 8) ≡ m / 8 % 2 + ones (m / 16) = ones_step (m / 8) ∙ ap (λ n. m / 8 % 2 + ones n) e4 in
    let s5 : ones (m / 16) ≡ m / 16 % 2 + 0 = ones_step (m / 16) ∙ ap (λ n. m / 16 % 2 + ones n) e5 in
    omega arith

pub ones_few : (m : ℕ) → m ≤ 31 → ones m ≤ 5
ones_few m h = ones-le 5 m (omega arith)

-- only the five lowest digits are looked at
half_low : (m h r q : ℕ) → m ≡ r + q * (h * 2) → m / 2 ≡ r / 2 + q * h
half_low m h r q e = let f : m ≡ r + q * h * 2 = e ∙ ap (λ x. r + x) (sym (mul_assoc q h 2)) in omega arith

even_low : (m r k : ℕ) → m ≡ r + k * 2 → m % 2 ≡ r % 2
even_low m r k e = omega arith

low : (m : ℕ) → flagged_in (m % 32) ≡ flagged_in m
unfolding flagged_in
low m =
    let q = m / 32 in
    let r = m % 32 in
    let e0 : m ≡ r + q * 32 = omega arith in
    let e1 : m / 2 ≡ r / 2 + q * 16 = half_low m 16 r q e0 in
    let e2 : m / 4 ≡ r / 4 + q * 8 = omega arith in
    let e3 : m / 8 ≡ r / 8 + q * 4 = omega arith in
    let e4 : m / 16 ≡ r / 16 + q * 2 = omega arith in
    let a : m % 2 ≡ r % 2 = even_low m r (q * 16) (omega arith) in
    let b : m / 2 % 2 ≡ r / 2 % 2 = even_low (m / 2) (r / 2) (q * 8) (omega arith) in
    let c : m / 4 % 2 ≡ r / 4 % 2 = even_low (m / 4) (r / 4) (q * 4) (omega arith) in
    let d : m / 8 % 2 ≡ r / 8 % 2 = even_low (m / 8) (r / 8) (q * 2) (omega arith) in
    let e : m / 16 % 2 ≡ r / 16 % 2 = even_low (m / 16) (r / 16) q (omega arith) in
    rw (a, b, c, d, e)

pub low_flagged : (m : ℕ) → (ones (m % 32) ≡ flagged_in m) × (ones (m % 32) ≤ 5)
low_flagged m = let h : m % 32 ≤ 31 = omega arith in (ones_flagged (m % 32) h ∙ low m, ones_few (m % 32) h)
