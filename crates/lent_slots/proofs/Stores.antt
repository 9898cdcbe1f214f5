-- A turn of a loop that stores a list's elements one after the other.
use Prim.Native.Nat.{ℕ, ◌+◌, ◌*◌, ◌-◌, ◌^◌, ◌<◌, ◌≤◌}
use native.Mathlib.Nat.{add-suc}
use native.Mathlib.Numerals.{add-one, add-four}
use native.Mathlib.Omega.{arith}
use mathlib.Core.List.{List, [], ◌∷◌}
use mathlib.Core.Bool.{Bool, true, false}
use mathlib.Core.Path.{◌≡◌, refl}
use lib.IntN.{ℤ, pos, negsuc}
use lib.ListN.{length, get_or, take, drop, set, drop_of_length-le}
use lib.Seq.{take-suc, take-suc-set, drop-cons, sets}
use lib.Signed.{lt_z, mag}
use mir.Syntax.{w32}
use mir.Val.{SFits, of_z, to_z}
use mir.Facts.{to_z-of_z, to_z_pos}
use borrow.Author.Rules.{sfits_of}
use borrow.Author.Tests.{ltb-true}
use Rattle.lent_slots.specs.Bytes.{little_endian, record_bytes}

-- from a table t₀ to a table t, the first i of w are stored from `at` on
module _ {A : Type 0} (t₀ t w : List A) (at i : ℕ) (p : sets t₀ at w ≡ sets t (at + i) (drop i w)) where
  pub more : (d : A) {v : A} → i < length w → v ≡ get_or w i d → sets t₀ at w ≡ sets (set t (at + i) v) (at + (i + 1)) (drop (i + 1) w)
  more d h e = rw (p, e, add-one i, add-suc, drop-cons w i d)

  pub end : length w ≤ i → t ≡ sets t₀ at w
  end h = rw (p, drop_of_length-le w h)

-- in the other way: the first i of w are taken from l
pub taken_more : {A : Type 0} (d : A) (w l : List A) (i : ℕ) {v : A} → i < length w → i < length l → v ≡ get_or l i d → take i w ≡ take i l → take (i + 1) (set w i v) ≡ take (i + 1) l
taken_more d w l i {v} h k e p = rw (add-one i, take-suc-set w i v h, take-suc l i d k, p, e)

-- ---- a word's bits

-- a number that is not below 0 is its own bits
pub plain : (z : ℤ) → SFits w32 z → lt_z (to_z w32 (of_z w32 z)) (pos 0) ≡ false → to_z w32 (of_z w32 z) ≡ pos (of_z w32 z)
plain (pos n) f e = to_z-of_z f
plain (negsuc n) f e = let q : ◌≡◌ {A = Bool} true false = rw (to_z-of_z f) at e in let z : ◌≡◌ {A = ℕ} 0 1 = cc in absurd (omega arith)

-- the bits of a number below 0, each turned, are a number that is not below 0
pub turned : (z : ℤ) → SFits w32 z → lt_z (to_z w32 (of_z w32 z)) (pos 0) ≡ true → to_z w32 (4294967295 - of_z w32 z) ≡ pos (4294967295 - of_z w32 z)
turned (pos n) f e = absurd (omega (arith, ltb-true n 0 (rw (to_z-of_z f) at e)))
turned (negsuc n) f e = to_z_pos w32 (omega arith)

-- ---- a record's bytes

-- from a table t₀ to a table t, the bytes of the first i words of w are stored, up to p
module _ (t₀ t : List ℕ) (w : List ℤ) (at p i : ℕ) (q : sets t₀ at (record_bytes w) ≡ sets t p (record_bytes (drop i w))) where
  pub word_more : {u : List ℕ} {n : ℕ} → i < length w → mag (get_or w i (pos 0)) < 2 ^ 31 → n ≡ of_z w32 (to_z w32 (of_z w32 (get_or w i (pos 0)))) → u ≡ sets t p (little_endian n) →
      sets t₀ at (record_bytes w) ≡ sets u (p + 4) (record_bytes (drop (i + 1) w))
  unfolding record_bytes little_endian
  word_more h g e f = rw (q, f, e, to_z-of_z {w = w32} {z = get_or w i (pos 0)} (sfits_of g), drop-cons w i (pos 0), add-one i, add-four)

  pub word_end : length w ≤ i → t ≡ sets t₀ at (record_bytes w)
  unfolding record_bytes
  word_end h = rw (q, drop_of_length-le w h)

-- four to a word
pub length_bytes : (w : List ℤ) → length (record_bytes w) ≡ length w * 4
unfolding record_bytes little_endian
length_bytes [] = refl
length_bytes (z ∷ zs) = omega (arith, length_bytes zs)
