-- Quotes and parts, a byte at a time.
use Rattle.std.specs.Prelude.{if◌then◌else◌}
use Prim.Native.Nat.{ℕ, zero, suc, ◌+◌, ◌-◌, ◌≤◌, ◌<◌}
use mathlib.Core.List.{List, [], ◌∷◌, ◌++◌}
use mathlib.Core.Bool.{Bool, true, false, ◌&&◌, not}
use mathlib.Core.Path.{◌≡◌, refl, sym, ap, ◌∙◌}
use native.Mathlib.Omega.{arith}
use native.Mathlib.Numerals.{add-one}
use lib.Dec.{eqb}
use lib.ListN.{length, get_or, take, drop, drop_of_length-le, get_or-eq_default}
use lib.Seq.{take-suc, drop-cons, length-take-le, get_or-take}
use Rattle.std.specs.List.{slice_range}
use Rattle.std.proofs.lemmas.List.{take-take}
use borrow.Author.Tests.{ne_eqb}
use Rattle.names.specs.Quotes.{flips, inside_of}
use Rattle.parts.specs.Parts.{part_in, part_end, begins}

-- two turns, in either order
swap : (p q i : Bool) → (if p then not (if q then not i else i) else (if q then not i else i)) ≡ (if q then not (if p then not i else i) else (if p then not i else i))
swap true true i = refl
swap true false i = refl
swap false true i = refl
swap false false i = refl

-- the last byte of a text turns what the others made
inside_last : (s : List ℕ) (b : ℕ) → inside_of (s ++ (b ∷ [])) ≡ flips b (inside_of s)
unfolding inside_of
inside_last [] b = refl
inside_last (x ∷ s) b = ap (flips x) (inside_last s b) ∙ swap (eqb x 34) (eqb b 34) (inside_of s)

-- inside, from one place to the next
pub inside_next : (s : List ℕ) (k : ℕ) → k < length s → flips (get_or s k 0) (inside_of (take k s)) ≡ inside_of (take (suc k) s)
inside_next s k h = sym (ap inside_of (take-suc s k 0 h) ∙ inside_last (take k s) (get_or s k 0))

-- outside, at the beginning
pub inside_none : (s : List ℕ) → false ≡ inside_of (take 0 s)
unfolding inside_of
inside_none s = refl

-- the part from a place on, by the byte that stands there
part_at : (inside : Bool) (s : List ℕ) (i : ℕ) → i < length s → part_in inside (drop i s) ≡ (if eqb (get_or s i 0) 59 && not inside then 0 else suc (part_in (flips (get_or s i 0) inside) (drop (suc i) s)))
unfolding part_in
part_at inside s i h = ap (part_in inside) (drop-cons s i 0 h)

-- where a part ends, from its beginning
pub part_begin : (s : List ℕ) (p : ℕ) → part_end s p ≡ p + part_in false (drop p s)
unfolding part_end
part_begin s p = refl

-- a part ends at a `;` outside
pub part_stop : (inside : Bool) (s : List ℕ) (i : ℕ) → i < length s → get_or s i 0 ≡ 59 → inside ≡ false → i + part_in inside (drop i s) ≡ i
part_stop inside s i h e o = let k : part_in inside (drop i s) ≡ 0 = rw (part_at inside s i h, e, o) in omega arith

-- a byte more, from the place or from the rest
one_more : (inside : Bool) (s : List ℕ) (i a : ℕ) → a ≡ suc (part_in inside (drop (suc i) s)) → i + a ≡ (i + 1) + part_in inside (drop (i + 1) s)
one_more inside s i a e =
    let n : part_in inside (drop (i + 1) s) ≡ part_in inside (drop (suc i) s) = ap (λ j. part_in inside (drop j s)) (add-one i) in
    omega arith

-- a `;` inside is a byte like another
pub part_quoted : (inside next : Bool) (s : List ℕ) (i : ℕ) → i < length s → get_or s i 0 ≡ 59 → inside ≡ true → next ≡ inside →
    i + part_in inside (drop i s) ≡ (i + 1) + part_in next (drop (i + 1) s)
part_quoted inside next s i h e o t = one_more next s i (part_in inside (drop i s)) (rw (part_at inside s i h, e, o, t, o))

-- and every other byte belongs to the part
pub part_more : (inside next : Bool) (s : List ℕ) (i : ℕ) → i < length s → (get_or s i 0 ≡ 59 → ⊥) → next ≡ flips (get_or s i 0) inside →
    i + part_in inside (drop i s) ≡ (i + 1) + part_in next (drop (i + 1) s)
part_more inside next s i h e t = one_more next s i (part_in inside (drop i s)) (rw (part_at inside s i h, ne_eqb (get_or s i 0) 59 e, t))

-- the last part ends with the text
pub part_done : (inside : Bool) (s : List ℕ) (i : ℕ) → length s ≤ i → i + part_in inside (drop i s) ≡ i
unfolding part_in
part_done inside s i h = let k : part_in inside (drop i s) ≡ 0 = ap (part_in inside) (drop_of_length-le s h) in omega arith

-- the sheet's beginning is a part's
pub begins_first : (s : List ℕ) (p : ℕ) → p ≡ 0 → true ≡ begins s p
unfolding begins
begins_first s p e = rw e

-- no part begins past the end
pub begins_past : (s : List ℕ) (p : ℕ) → length s < p → false ≡ begins s p
unfolding begins
begins_past s zero h = absurd (omega arith)
begins_past s (suc i) h = let k : length s ≤ i = omega arith in rw (get_or-eq_default s 0 k)

-- past the sheet's beginning, the last byte before a place and its side decide
begins_at : (s : List ℕ) (p : ℕ) → p ≤ length s → 0 < p → begins s p ≡ (eqb (get_or (take p s) (p - 1) 0) 59 && not (inside_of (take (p - 1) (take p s))))
unfolding begins
begins_at s zero l h = absurd (omega arith)
begins_at s (suc i) l h =
    let e : suc i - 1 ≡ i = omega arith in
    rw (e, get_or-take (suc i) s i 0 (omega arith), take-take i (suc i) s (omega arith))

-- the bytes before a place, as the code cuts them out
before_place : (s : List ℕ) (p : ℕ) → slice_range s 0 p ≡ take p s
before_place s p = let e : p - 0 ≡ p = omega arith in rw e

-- the bytes before a place, where one stands last
module _ (s x : List ℕ) (p : ℕ) (e : x ≡ slice_range s 0 p) (l : p ≤ length s) (h : 1 ≤ length x) where
  begins_last : begins s p ≡ (eqb (get_or x (length x - 1) 0) 59 && not (inside_of (take (length x - 1) x)))
  begins_last =
      let q = e ∙ before_place s p in
      let n : length x ≡ p = ap length q ∙ length-take-le p s l in
      rw (n, q) (begins_at s p l (omega arith))

  -- after a `;` a part begins, if that stands outside
  pub begins_after : (inside : Bool) → get_or x (length x - 1) 0 ≡ 59 → inside ≡ inside_of (take (length x - 1) x) → not inside ≡ begins s p
  begins_after inside q o = rw (begins_last, q, o)

  -- and after no other byte
  pub begins_not_lem : (get_or x (length x - 1) 0 ≡ 59 → ⊥) → eqb (get_or x (length x - 1) 0) 59 ≡ begins s p
  begins_not_lem q = rw (begins_last, ne_eqb (get_or x (length x - 1) 0) 59 q)
