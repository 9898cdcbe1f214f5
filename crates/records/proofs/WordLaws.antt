-- A word of a record, as the machine reads it.
use Prim.Native.Nat.{ℕ, zero, suc, ◌+◌, ◌-◌, ◌<◌, ◌≤◌}
use native.Mathlib.Numerals.{add-one}
use Rattle.std.proofs.lemmas.List.{get_or-take, get_or-drop, length-take}
use lib.ListN.{take, get_or, length, drop, drop_of_length-le}
use lib.Seq.{drop-cons}
use native.Mathlib.Omega.{arith}
use mathlib.Core.List.{List, []}
use mathlib.Core.Bool.{true, ◌&&◌, not, true≢false}
use mathlib.Core.Path.{◌≡◌, refl, sym, ap, ◌∙◌}
use borrow.Author.Tests.{leb-true, le-leb}
use lib.Dec.{leb}
use lib.IntN.{ℤ, pos, negsuc, nat_abs}
use lib.Signed.{non_neg}
use Rattle.records.specs.Ranges.{between, from, exactly, about, year, nth}
use Rattle.records.specs.Fits.{word_at, unused}
use Rattle.records.specs.Told.{up_to, within, signed_at, signed_half, number_of}
use Rattle.records.proofs.Tests.{both, either}

-- ---- what a range says

pub from_is : (lo hi : ℕ) (x : ℤ) → from lo hi x ≡ true → (x ≡ pos (nat_abs x)) × ((lo ≤ nat_abs x) × (nat_abs x ≤ hi))
unfolding between
from_is lo hi (pos n) e = let b = both (leb lo n) e in (refl, (leb-true lo n b.0, leb-true n hi b.1))
from_is lo hi (negsuc n) e = absurd (true≢false (sym e))

-- ---- unused words

pub unused_more : (w : List ℤ) (i : ℕ) → length w ≡ 16 → i < 15 → unused (drop i w) ≡ (exactly 0 (word_at w i) && unused (drop (i + 1) w))
unfolding unused
unused_more w i l h =
    let a : i < length w = omega arith in
    let b : suc i < length w = omega arith in
    rw (add-one i, drop-cons w i (pos 0) a, drop-cons w (suc i) (pos 0) b)

-- the same of the words from k on without the last, as a slice
pub unused_step : (w : List ℤ) (k j : ℕ) → length w ≡ 16 → k < 16 → j < length (take (15 - k) (drop k w)) →
    unused (drop (k + j) w) ≡ (exactly 0 (get_or (take (15 - k) (drop k w)) j (pos 0)) && unused (drop (k + (j + 1)) w))
unused_step w k j l h i =
    let n : j < 15 - k = omega (arith, length-take (15 - k) (drop k w)) in
    let e : k + (j + 1) ≡ k + j + 1 = omega arith in
    rw (e, get_or-take (15 - k) (drop k w) j (pos 0) n, get_or-drop k w j (pos 0)) (unused_more w (k + j) l (omega arith))

pub unused_last : (w : List ℤ) → length w ≡ 16 → unused (drop 15 w) ≡ non_neg (word_at w 15)
unfolding unused
unused_last w l = let a : 15 < length w = omega arith in let b : length w ≤ 16 = omega arith in let gone : drop 16 w ≡ [] = drop_of_length-le w b in rw (drop-cons w 15 (pos 0) a, gone)

-- ---- ranges and the numbers in them

pub exactly_is : (n : ℕ) (x : ℤ) → exactly n x ≡ true → x ≡ pos n
exactly_is n x e = let q = from_is n n x e in let m : nat_abs x ≡ n = omega arith in q.0 ∙ ap pos m

pub from_in : (top : ℕ) (x : ℤ) → x ≡ pos (nat_abs x) → nat_abs x ≤ top → from 0 top x ≡ true
unfolding between
from_in top (pos n) e h = rw (le-leb 0 n (omega arith), le-leb n top h)
from_in top (negsuc n) e h = let z : ◌≡◌ {A = ℕ} 0 1 = cc in absurd (omega arith)

pub about_size : (n : ℕ) (x : ℤ) → about n x ≡ true → nat_abs x ≤ n
unfolding between
about_size zero (pos m) e = leb-true m 0 (both (leb 0 m) e).1
about_size zero (negsuc m) e = absurd (true≢false (sym e))
about_size (suc n) (pos m) e = leb-true m (suc n) e
about_size (suc n) (negsuc m) e = let b = both (leb m n) e in omega (arith, leb-true m n b.0)

pub about_in : (n : ℕ) (x : ℤ) → nat_abs x ≤ n → about n x ≡ true
unfolding between
about_in zero (pos m) h = rw (le-leb 0 m (omega arith), le-leb m 0 h)
about_in zero (negsuc m) h = absurd (omega arith)
about_in (suc n) (pos m) h = le-leb m (suc n) h
about_in (suc n) (negsuc m) h = rw (le-leb m n (omega arith))

-- a word in range is kept as it is
pub number_at_lem : (lo hi top : ℕ) (w : List ℤ) (k : ℕ) → from lo hi (word_at w k) ≡ true → hi ≤ top → pos (up_to top w k) ≡ word_at w k
unfolding within
number_at_lem lo hi top w k e h = let q = from_is lo hi (word_at w k) e in rw (from_in top (word_at w k) q.0 (omega arith)) (sym q.0)

pub year_at : (last : ℕ) (w : List ℤ) (k : ℕ) → year (pos last) (word_at w k) ≡ true → last ≤ 65535 → pos (up_to 65535 w k) ≡ word_at w k
unfolding year
year_at last w k e h = either (pos (up_to 65535 w k) ≡ word_at w k) (exactly 0 (word_at w k)) (from 1900 last (word_at w k)) e (λ a. number_at_lem 0 0 65535 w k a (omega arith)) (λ a. number_at_lem 1900 last 65535 w k a h)

pub signed_at_lem : (n : ℕ) (w : List ℤ) (k : ℕ) → about n (word_at w k) ≡ true → n ≤ 32767 → signed_at w k ≡ word_at w k
unfolding signed_half
signed_at_lem n w k e h = rw (about_in 32767 (word_at w k) (omega (arith, about_size n (word_at w k) e)))

pub nth_at : (w : List ℤ) (k : ℕ) → nth (word_at w k) ≡ true → signed_at w k ≡ word_at w k
unfolding nth
nth_at w k e = signed_at_lem 5 w k (both (not (exactly 0 (word_at w k))) e).1 (omega arith)

-- a word from 0 up is kept as it is
pub count_at : (x : ℤ) → non_neg x ≡ true → pos (number_of x) ≡ x
count_at (pos n) e = refl
count_at (negsuc n) e = absurd (true≢false (sym e))
