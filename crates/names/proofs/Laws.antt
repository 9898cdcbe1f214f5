-- Laws of tests, and of the readers that code's own steps go by: one byte, from what the code knows of it.
use Rattle.std.specs.Prelude.{if◌then◌else◌}
use Prim.Native.Nat.{ℕ, ◌+◌, ◌≤◌, ◌<◌}
use mathlib.Core.Bool.{Bool, true, false, true≢false}
use mathlib.Core.List.{List}
use mathlib.Core.Path.{◌≡◌, refl, sym, ap, ◌∙◌}
use native.Mathlib.Omega.{arith}
use native.Mathlib.Numerals.{add-one}
use native.Mathlib.Decide.{dec_lt}
use borrow.Author.Tests.{lt-ltb, le-ltb, le-leb, lt-leb, eq-eqb, ne_eqb}
use lib.Dec.{eqb}
use lib.ListN.{length, get_or, get_or-eq_default}
use Rattle.names.specs.Tests.{within}
use Rattle.names.specs.Read.{Read, got, none, refused, Reader, follow, pure, when, one, ahead}

-- one or the other, by a test
pub either : {A : Type 0} (P : A → Type 0) (t : Bool) (a b : A) → P a → P b → P (if t then a else b)
either P true a b h k = h
either P false a b h k = k

-- a byte of the text that passes a test, or does not, or the text's end
pub one_got : (p : ℕ → Bool) (s : List ℕ) (i : ℕ) → i < length s → p (get_or s i 0) ≡ true → one p s i ≡ got (get_or s i 0) (i + 1)
unfolding one
one_got p s i h e = rw (lt-ltb i (length s) h, e, add-one)

pub one_other : (p : ℕ → Bool) (s : List ℕ) (i : ℕ) → i < length s → p (get_or s i 0) ≡ false → one p s i ≡ none
unfolding one
one_other p s i h e = rw (lt-ltb i (length s) h, e)

pub one_past : (p : ℕ → Bool) (s : List ℕ) (i : ℕ) → length s ≤ i → one p s i ≡ none
unfolding one
one_past p s i h = rw (le-ltb i (length s) h)

-- a byte that is not 0 stands before the end
pub inside : (s : List ℕ) (i : ℕ) → (get_or s i 0 ≡ 0 → ⊥) → i < length s
inside s i h = go (dec_lt i (length s))
  where
    go : Dec (i < length s) → i < length s
    go (yes p) = p
    go (no q) = absurd (h (get_or-eq_default s 0 (omega arith)))

-- one byte by a test that 0 does not pass, from what the test says of it
pub one_is : (p : ℕ → Bool) → p 0 ≡ false → (s : List ℕ) (i : ℕ) {b : ℕ} {t : Bool} → b ≡ get_or s i 0 → p b ≡ t → one p s i ≡ when t (got b (i + 1))
one_is p z s i {b} {t = true} e h = one_got p s i (inside s i (λ q. true≢false (sym h ∙ ap p (e ∙ q) ∙ z))) (ap p (sym e) ∙ h) ∙ ap (λ (x : ℕ). got x (i + 1)) (sym e)
one_is p z s i {b} {t = false} e h = go (dec_lt i (length s))
  where
    go : Dec (i < length s) → one p s i ≡ none
    go (yes q) = one_other p s i q (ap p (sym e) ∙ h)
    go (no q) = one_past p s i (omega arith)

-- a look at the byte
pub ahead_is : (p : ℕ → Bool) (s : List ℕ) (i : ℕ) {b : ℕ} {t : Bool} → b ≡ get_or s i 0 → p b ≡ t → ahead p s i ≡ when t (got tt i)
unfolding ahead
ahead_is p s i e h = rw (← e, h)

-- a range, from both of its tests
pub within_true : (lo hi n : ℕ) → lo ≤ n → n ≤ hi → within lo hi n ≡ true
unfolding within
within_true lo hi n a b = rw (le-leb lo n a, le-leb n hi b)

pub within_below : (lo hi n : ℕ) → n < lo → within lo hi n ≡ false
unfolding within
within_below lo hi n a = rw (lt-leb lo n a)

pub within_above : (lo hi n : ℕ) → lo ≤ n → hi < n → within lo hi n ≡ false
unfolding within
within_above lo hi n a b = rw (le-leb lo n a, lt-leb n hi b)

pub within_range : (lo hi n : ℕ) → within lo hi n ≡ true → (lo ≤ n) × (n ≤ hi)
unfolding within
within_range lo hi n e = go (dec_lt n lo) (dec_lt hi n)
  where
    go : Dec (n < lo) → Dec (hi < n) → (lo ≤ n) × (n ≤ hi)
    go (yes p) q = absurd (true≢false (sym e ∙ within_below lo hi n p))
    go (no p) (yes q) = absurd (true≢false (sym e ∙ within_above lo hi n (omega arith) q))
    go (no p) (no q) = (omega arith, omega arith)

-- a range of one number
pub within_one : (n b : ℕ) → eqb n b ≡ within n n b
within_one n b = go (dec_lt b n) (dec_lt n b)
  where
    go : Dec (b < n) → Dec (n < b) → eqb n b ≡ within n n b
    go (yes p) q = ne_eqb n b (λ e. omega arith) ∙ sym (within_below n n b p)
    go (no p) (yes q) = ne_eqb n b (λ e. omega arith) ∙ sym (within_above n n b (omega arith) q)
    go (no p) (no q) = eq-eqb n b (omega arith) ∙ sym (within_true n n b (omega arith) (omega arith))

-- what reads nothing may be left out
pub or_none : {A : Type 0} (s : List ℕ) (i : ℕ) (r : Read A) (n : Reader A) → n s i ≡ none → follow s i r pure n ≡ r
or_none s i (got a j) n h = refl
or_none s i none n h = h
or_none s i (refused k p) n h = refl
