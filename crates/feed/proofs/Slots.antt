-- What is kept in the slots of a table: from a slot on, where the table has them, and where it has room for all.
use Rattle.std.specs.Prelude.{if◌then◌else◌}
use Prim.Native.Nat.{ℕ, suc, ◌+◌, ◌*◌, ◌/◌, ◌≤◌, ◌<◌}
use mathlib.Core.List.{List, [], ◌∷◌, ◌++◌, append-nil}
use mathlib.Core.Path.{◌≡◌, refl, sym, ap, ◌∙◌}
use native.Mathlib.Omega.{arith}
use native.Mathlib.Decide.{dec_lt}
use native.Mathlib.Nat.{zero-add, add-mul, suc-mul, zero-mul, mul-le-mul_right, le_trans, le-div_iff_mul-le, div-lt_iff_lt-mul}
use native.Mathlib.Numerals.{towards_suc}
use borrow.Author.Tests.{lt-ltb, le-ltb}
use lib.Dec.{ltb}
use lib.IntN.{ℤ, pos}
use lib.ListN.{length, take, drop, set, length-append, take-append-drop}
use lib.Seq.{sets, length-take-le, take-length, drop-length}
use Rattle.lent_slots.specs.Bytes.{little_endian, record_bytes}
use Rattle.lent_slots.specs.Tables.{Layout, as_words, as_bytes, laid, kept, Tables, kept_in, all_kept}
use Rattle.lent_slots.proofs.Keeps.{kept_fits, kept_none, length_kept}
use Rattle.feed.specs.Into.{free_from, kept_all}

-- ---- where a table is free

module _ (cells width k : ℕ) (wide : 0 < width) where
  -- at a slot that it has, whole
  pub free_slot : k < cells / width → k * width + width ≤ cells
  free_slot h = let l : suc k * width ≤ cells = (le-div_iff_mul-le wide).0 (omega arith) in omega (arith, suc-mul k width)

  -- or it has none
  pub free_none : cells / width ≤ k → cells < k * width + width
  free_none h = let l : cells < suc k * width = (div-lt_iff_lt-mul wide).0 (omega arith) in omega (arith, suc-mul k width)

-- ---- stores after the first cells of a table

module _ {A : Type 0} where
  set_after : (p q : List A) (i : ℕ) (v : A) → set (p ++ q) (length p + i) v ≡ p ++ set q i v
  set_after [] q i v = rw zero-add
  set_after (a ∷ p) q i v = let e : suc (length p) + i ≡ suc (length p + i) = omega arith in rw e (ap (λ (l : List A). a ∷ l) (set_after p q i v))

  sets_after : (w p q : List A) (i : ℕ) → sets (p ++ q) (length p + i) w ≡ p ++ sets q i w
  sets_after [] p q i = refl
  sets_after (v ∷ w) p q i = let e : suc (length p + i) ≡ length p + suc i = omega arith in rw (set_after p q i v, e) (sets_after w p (set q i v) (suc i))

-- ---- in the slots of one table

module _ {A : Type 0} (d : Layout A) where
  -- where it has room for all, they are written over it
  pub all_laid : (rs : List (List ℤ)) (t : List A) (k : ℕ) → (k + length rs) * d.width ≤ length t → kept_all d t k rs ≡ laid d t k rs
  unfolding kept_all laid
  all_laid [] t k h = refl
  all_laid (r ∷ rs) t k h =
      let e : suc k + length rs ≡ k + suc (length rs) = omega arith in
      all_laid rs (kept d t k r) (suc k) (rw (e, length_kept d t k r) h)
      ∙ ap (λ (l : List A). laid d l (suc k) rs) (kept_fits d t k r (le_trans room h))
    where
      room : k * d.width + d.width ≤ (k + suc (length rs)) * d.width
      room = rw (← suc-mul k d.width) (mul-le-mul_right d.width (omega arith))

  -- where it has not the first slot, it stays
  all_none : (rs : List (List ℤ)) (t : List A) (k : ℕ) → length t < k * d.width + d.width → kept_all d t k rs ≡ t
  unfolding kept_all
  all_none [] t k h = refl
  all_none (r ∷ rs) t k h = rw (kept_none d t k r h) (all_none rs t (suc k) (rw suc-mul (omega arith)))

  -- slots after the first k
  module _ (p : List A) (k : ℕ) (h : length p ≡ k * d.width) where
    kept_after : (q : List A) (j : ℕ) (r : List ℤ) → kept d (p ++ q) (k + j) r ≡ p ++ kept d q j r
    kept_after q j r = go (dec_lt (length q) (j * d.width + d.width))
      where
        at : (k + j) * d.width ≡ length p + j * d.width
        at = rw add-mul (omega arith)

        go : Dec (length q < j * d.width + d.width) → kept d (p ++ q) (k + j) r ≡ p ++ kept d q j r
        go (yes l) = kept_none d (p ++ q) (k + j) r (rw (at, length-append) (omega arith)) ∙ ap (λ (x : List A). p ++ x) (sym (kept_none d q j r l))
        go (no l) =
            let m : j * d.width + d.width ≤ length q = omega arith in
            kept_fits d (p ++ q) (k + j) r (rw (at, length-append) (omega arith))
            ∙ rw at (sets_after (d.cells r) p q (j * d.width))
            ∙ ap (λ (x : List A). p ++ x) (sym (kept_fits d q j r m))

    all_after : (rs : List (List ℤ)) (q : List A) (j : ℕ) → kept_all d (p ++ q) (k + j) rs ≡ p ++ kept_all d q j rs
    unfolding kept_all
    all_after [] q j = refl
    all_after (r ∷ rs) q j = let e : suc (k + j) ≡ k + suc j = omega arith in rw (kept_after q j r, e) (all_after rs (kept d q j r) (suc j))

  -- from slot k on, in what is free of the table there
  pub all_from : 0 < d.width → (rs : List (List ℤ)) (t : List A) (k : ℕ) → let w = free_from (length t) d.width k in kept_all d t k rs ≡ take w t ++ kept_all d (drop w t) 0 rs
  unfolding free_from
  all_from wide rs t k = go (dec_lt k (length t / d.width))
    where
      in_table : k < length t / d.width → kept_all d t k rs ≡ take (k * d.width) t ++ kept_all d (drop (k * d.width) t) 0 rs
      in_table h =
          let m : k * d.width ≤ length t = omega (arith, free_slot (length t) d.width k wide h) in
          let e : k ≡ k + 0 = omega arith in
          ap (λ (x : List A). kept_all d x k rs) (sym (take-append-drop (k * d.width) t))
          ∙ ap (λ (j : ℕ). kept_all d (take (k * d.width) t ++ drop (k * d.width) t) j rs) e
          ∙ all_after (take (k * d.width) t) k (length-take-le (k * d.width) t m) rs (drop (k * d.width) t) 0

      none : length t / d.width ≤ k → kept_all d t k rs ≡ take (length t) t ++ kept_all d (drop (length t) t) 0 rs
      none h =
          rw (take-length t, drop-length t, all_none rs [] 0 (rw zero-mul (omega arith)), append-nil)
          (all_none rs t k (free_none (length t) d.width k wide h))

      go : Dec (k < length t / d.width) → let w = (if ltb k (length t / d.width) then k * d.width else length t) in kept_all d t k rs ≡ take w t ++ kept_all d (drop w t) 0 rs
      go (yes h) = rw (lt-ltb k (length t / d.width) h) (in_table h)
      go (no h) = let l : length t / d.width ≤ k = omega arith in rw (le-ltb k (length t / d.width) l) (none l)

-- ---- in both tables

-- each has what it keeps by itself
pub all_each : (rs : List (List ℤ)) (t : Tables) (k : ℕ) → all_kept t k rs ≡ (kept_all as_words t.0 k rs, kept_all as_bytes t.1 k rs)
unfolding all_kept kept_all
all_each [] t k = refl
all_each (r ∷ rs) t k = all_each rs (kept_in t k r) (suc k)
