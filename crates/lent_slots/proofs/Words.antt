-- The cells of words, stored a word at a time.
use Prim.Native.Nat.{ℕ, suc, ◌+◌, ◌*◌, ◌/◌, ◌≤◌, ◌<◌}
use mathlib.Core.List.{List, [], ◌∷◌}
use mathlib.Core.Path.{◌≡◌, sym, ◌∙◌}
use native.Mathlib.Nat.{suc-mul, mul-le-mul_right, div-mul-le_self, lt-div-mul-add}
use native.Mathlib.Numerals.{add-one}
use native.Mathlib.Omega.{arith}
use lib.IntN.{ℤ, pos}
use lib.ListN.{length, get_or, drop, length-append}
use lib.Seq.{drop-cons, sets, length-sets}
use Rattle.lent_slots.specs.SlotCells.{CellLaws}
use Rattle.lent_slots.proofs.Cells.{sets_append}

-- a slot of so many cells that a table of n cells has, or does not have
pub has_slot : (n slot width : ℕ) → slot < n / width → slot * width + width ≤ n
has_slot n slot width h = let all : suc slot * width ≤ n / width * width = mul-le-mul_right width h in
    omega (arith, suc-mul slot width, all, div-mul-le_self n width)

pub no_slot : (n slot width : ℕ) → 1 ≤ width → n / width ≤ slot → n < slot * width + width
no_slot n slot width some h = let all : n / width * width ≤ slot * width = mul-le-mul_right width h in
    omega (arith, lt-div-mul-add {a = n} {b = width} some, all)

module _ {A : Type 0} {per : ℕ} {cells : List ℤ → List A} (laws : CellLaws per cells) where
  -- how many cells words have
  pub cells_long : (w : List ℤ) → length (cells w) ≡ length w * per
  cells_long [] = rw laws.none (sym (omega arith))
  cells_long (z ∷ zs) = rw (laws.more z zs, length-append (cells (z ∷ [])) (cells zs), laws.long z, cells_long zs, suc-mul) (omega arith)

  -- from a table t₀ to a table t, the cells of the first i words of w are stored, up to p
  module _ (t₀ t : List A) (w : List ℤ) (at p i : ℕ) (place : p ≡ at + i * per) (long : length t ≡ length t₀) (q : sets t₀ at (cells w) ≡ sets t p (cells (drop i w))) where
    pub word_stored : {u : List A} → i < length w → u ≡ sets t p (cells (get_or w i (pos 0) ∷ [])) →
        (p + per ≡ at + (i + 1) * per) × (length u ≡ length t₀) × (sets t₀ at (cells w) ≡ sets u (p + per) (cells (drop (i + 1) w)))
    word_stored {u} h e =
        let first = cells (get_or w i (pos 0) ∷ []) in
        let next : (i + 1) * per ≡ per + i * per = rw (add-one i, suc-mul) (omega arith) in (
          rw next (omega arith),
          rw e (length-sets t p first) ∙ long,
          q ∙ rw (drop-cons w i (pos 0) h, laws.more, sets_append first (cells (drop (suc i) w)) t p, laws.long, add-one i, ← e),
        )
