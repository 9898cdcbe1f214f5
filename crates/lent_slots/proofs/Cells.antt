-- The cells of records in a table, and records taken out of it.
use Prim.Native.Nat.{ℕ, suc, ◌+◌, ◌*◌, ◌-◌, ◌≤◌, ◌<◌}
use mathlib.Core.List.{List, [], ◌∷◌, ◌++◌, append_assoc}
use mathlib.Core.Path.{◌≡◌, refl, sym, ap, ◌∙◌}
use native.Mathlib.Omega.{arith}
use native.Mathlib.Nat.{zero-add, zero-mul, suc-mul}
use native.Mathlib.Numerals.{add-one}
use lib.IntN.{ℤ}
use lib.ListN.{length, take, drop, set, length-append}
use lib.Seq.{sets, sets-eq, take_at, drop_at, drop-drop}
use Rattle.lent_slots.specs.Tables.{Layout, as_words, laid, Tables, kept_in, all_kept, records_in}
use Rattle.lent_slots.proofs.Keeps.{Wide, words_wide}

-- ---- a record has 16 words

-- every record of these does
abbrev pub Sixteen : List (List ℤ) → Type 0
Sixteen [] = Unit {0}
Sixteen (r ∷ rs) = (length r ≡ 16) × Sixteen rs

-- and of both lists
pub sixteen_append : (a b : List (List ℤ)) → Sixteen a → Sixteen b → Sixteen (a ++ b)
sixteen_append [] b h k = k
sixteen_append (r ∷ a) b h k = (h.0, sixteen_append a b h.1 k)

-- ---- the cells of records in a table

-- two runs of stores, one after the other
pub sets_append : {A : Type 0} (x y t : List A) (b : ℕ) → sets t b (x ++ y) ≡ sets (sets t b x) (b + length x) y
sets_append [] y t b = ap (λ (n : ℕ). sets t n y) (omega arith)
sets_append (a ∷ x) y t b = let e : suc b + length x ≡ b + suc (length x) = omega arith in sets_append x y (set t b a) (suc b) ∙ ap (λ (n : ℕ). sets (sets t b (a ∷ x)) n y) e

-- the cells of records, one record after another
abbrev pub cells_of : {A : Type 0} → Layout A → List (List ℤ) → List A
cells_of d [] = []
cells_of d (r ∷ rs) = d.cells r ++ cells_of d rs

module _ {A : Type 0} (d : Layout A) (wide : Wide d) where
  -- a slot's for each record
  cells_long : (rs : List (List ℤ)) → Sixteen rs → length (cells_of d rs) ≡ length rs * d.width
  cells_long [] h = sym (zero-mul d.width)
  cells_long (r ∷ rs) h = rw (length-append, suc-mul) (omega (arith, wide r h.0, cells_long rs h.1))

  -- records written over a table are their cells written over it
  laid_cells : (rs : List (List ℤ)) (t : List A) (k : ℕ) → Sixteen rs → laid d t k rs ≡ sets t (k * d.width) (cells_of d rs)
  unfolding laid
  laid_cells [] t k h = refl
  laid_cells (r ∷ rs) t k h =
      let e : suc k * d.width ≡ k * d.width + length (d.cells r) = rw suc-mul (omega (arith, wide r h.0)) in
      laid_cells rs (sets t (k * d.width) (d.cells r)) (suc k) h.1
      ∙ ap (λ (n : ℕ). sets (sets t (k * d.width) (d.cells r)) n (cells_of d rs)) e
      ∙ sym (sets_append (d.cells r) (cells_of d rs) t (k * d.width))

  module _ (rs : List (List ℤ)) (t : List A) (h : Sixteen rs) (room : length rs * d.width ≤ length t) where
    -- where it has room, they are its front, and the rest is as it was
    pub front_split : laid d t 0 rs ≡ cells_of d rs ++ drop (length rs * d.width) t
    front_split = let e = cells_long rs h in laid_cells rs t 0 h ∙ rw (zero-mul d.width) (sets-eq (cells_of d rs) t 0 (omega arith) ∙ rw (zero-add, e))

    -- and may be taken from there
    pub front_taken : take (length rs * d.width) (laid d t 0 rs) ≡ cells_of d rs
    front_taken = rw front_split (take_at (cells_of d rs) _ (length rs * d.width) (cells_long rs h))

-- ---- records taken out of a table

-- out of their words
records_out : (rs : List (List ℤ)) (t : List ℤ) → Sixteen rs → records_in (length rs) (cells_of as_words rs ++ t) ≡ rs
unfolding records_in
records_out [] t h = refl
records_out (r ∷ rs) t h = rw (append_assoc r (cells_of as_words rs) t, take_at r (cells_of as_words rs ++ t) 16 h.0, drop_at r (cells_of as_words rs ++ t) 16 h.0, records_out rs t h.1)

-- where they were written with room for all, they are found
pub records_back : (rs : List (List ℤ)) (t : List ℤ) → Sixteen rs → length rs * 16 ≤ length t → records_in (length rs) (laid as_words t 0 rs) ≡ rs
records_back rs t h room = rw (front_split as_words words_wide rs t h room) (records_out rs _ h)

-- put into tables one by one: all are left
pub out_begin : (n : ℕ) (from : List ℤ) (t : Tables) → all_kept t 0 (records_in n from) ≡ all_kept t 0 (records_in (n - 0) (drop (0 * 16) from))
out_begin n from t = let a : n - 0 ≡ n = omega arith in rw a

-- so many are left after the first i
module _ (n i : ℕ) (from : List ℤ) (t : Tables) where
  pub out_more : i < n → all_kept t i (records_in (n - i) (drop (i * 16) from)) ≡ all_kept (kept_in t i (take 16 (drop (i * 16) from))) (i + 1) (records_in (n - (i + 1)) (drop ((i + 1) * 16) from))
  unfolding all_kept records_in
  out_more h =
      let a : n - i ≡ suc (n - (i + 1)) = omega arith in
      let b : (i + 1) * 16 ≡ i * 16 + 16 = omega arith in
      rw (a, b, ← drop-drop 16 (i * 16) from, add-one i)

  pub out_end : n ≤ i → all_kept t i (records_in (n - i) (drop (i * 16) from)) ≡ t
  unfolding all_kept records_in
  out_end h = let a : n - i ≡ 0 = omega arith in rw a
