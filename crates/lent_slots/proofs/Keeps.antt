-- A record kept in its slot, and many: in slots apart their order does not matter, and where there is room for all they are written over the table.
use Rattle.std.specs.Prelude.{if◌then◌else◌}
use Prim.Native.Nat.{ℕ, suc, ◌+◌, ◌*◌, ◌≤◌, ◌<◌}
use mathlib.Core.List.{List, [], ◌∷◌, ◌++◌}
use mathlib.Core.Bool.{Bool, true, false}
use mathlib.Core.Path.{◌≡◌, refl, sym, ap, ◌∙◌}
use native.Mathlib.Omega.{arith}
use native.Mathlib.Nat.{suc-mul, mul-le-mul_right, le_trans}
use borrow.Author.Tests.{lt-ltb, le-ltb}
use lib.Dec.{ltb}
use lib.IntN.{ℤ}
use lib.ListN.{length, set}
use lib.Seq.{sets, set_comm, length-sets}
use Rattle.lent_slots.specs.Tables.{Layout, as_words, as_bytes, laid, kept, Tables, kept_in, all_kept}
use Rattle.lent_slots.proofs.Stores.{length_bytes}

-- 16 words have just the cells of a slot
abbrev pub Wide : {A : Type 0} → Layout A → Type 0
Wide d = (r : List ℤ) → length r ≡ 16 → length (d.cells r) ≡ d.width

-- in a table of words
pub words_wide : Wide as_words
words_wide r e = e

-- and their 64 bytes
pub bytes_wide : Wide as_bytes
bytes_wide r e = length_bytes r ∙ omega arith

module _ {A : Type 0} where
  -- a store before a run of stores may come first
  set_sets : (r t : List A) (c b : ℕ) (v : A) → b < c → set (sets t c r) b v ≡ sets (set t b v) c r
  set_sets [] t c b v h = refl
  set_sets (a ∷ r) t c b v h = set_sets r (set t c a) (suc c) b v (omega arith) ∙ ap (λ (l : List A). sets l (suc c) r) (set_comm t c b a v (λ e. omega arith))

  -- so may a run of stores
  sets_sets : (w r t : List A) (c b : ℕ) → b + length w ≤ c → sets (sets t c r) b w ≡ sets (sets t b w) c r
  sets_sets [] r t c b h = refl
  sets_sets (v ∷ w) r t c b h = ap (λ (l : List A). sets l (suc b) w) (set_sets r t c b v (omega arith)) ∙ sets_sets w r (set t b v) c (suc b) (omega arith)

-- ---- one record

module _ {A : Type 0} (d : Layout A) where
  -- it is stored in a slot that the table has
  pub kept_fits : (t : List A) (k : ℕ) (r : List ℤ) → k * d.width + d.width ≤ length t → kept d t k r ≡ sets t (k * d.width) (d.cells r)
  unfolding kept
  kept_fits t k r h = rw (le-ltb (length t) (k * d.width + d.width) h)

  -- and nowhere else
  pub kept_none : (t : List A) (k : ℕ) (r : List ℤ) → length t < k * d.width + d.width → kept d t k r ≡ t
  unfolding kept
  kept_none t k r h = rw (lt-ltb (length t) (k * d.width + d.width) h)

  -- the table keeps its length
  pub length_kept : (t : List A) (k : ℕ) (r : List ℤ) → length (kept d t k r) ≡ length t
  unfolding kept
  length_kept t k r = go (ltb (length t) (k * d.width + d.width))
    where
      go : (b : Bool) → length (if b then t else sets t (k * d.width) (d.cells r)) ≡ length t
      go true = refl
      go false = length-sets t (k * d.width) (d.cells r)

  -- two records in slots apart, in either order
  kept_apart : Wide d → (t : List A) (i j : ℕ) (a b : List ℤ) → i < j → length b ≡ 16 → kept d (kept d t j a) i b ≡ kept d (kept d t i b) j a
  unfolding kept
  kept_apart wide t i j a b h e =
      ap (λ (l : ℕ). if ltb l (i * d.width + d.width) then kept d t j a else low (kept d t j a)) (length_kept t j a)
      ∙ go (ltb (length t) (i * d.width + d.width)) (ltb (length t) (j * d.width + d.width))
      ∙ sym (ap (λ (l : ℕ). if ltb l (j * d.width + d.width) then kept d t i b else high (kept d t i b)) (length_kept t i b))
    where
      low : List A → List A
      low l = sets l (i * d.width) (d.cells b)

      high : List A → List A
      high l = sets l (j * d.width) (d.cells a)

      room : i * d.width + length (d.cells b) ≤ j * d.width
      room = rw (wide b e, ← suc-mul i d.width) (mul-le-mul_right d.width h)

      go : (p q : Bool) → (if p then (if q then t else high t) else low (if q then t else high t)) ≡ (if q then (if p then t else low t) else high (if p then t else low t))
      go true true = refl
      go true false = refl
      go false true = refl
      go false false = sets_sets (d.cells b) (d.cells a) t (j * d.width) (i * d.width) room

-- in both tables
in_apart : (t : Tables) (i j : ℕ) (a b : List ℤ) → i < j → length b ≡ 16 → kept_in (kept_in t j a) i b ≡ kept_in (kept_in t i b) j a
in_apart t i j a b h e = rw (kept_apart as_words words_wide t.0 i j a b h e, kept_apart as_bytes bytes_wide t.1 i j a b h e)

-- ---- many

-- records after records
pub all_append : (a b : List (List ℤ)) (t : Tables) (k : ℕ) → all_kept t k (a ++ b) ≡ all_kept (all_kept t k a) (k + length a) b
unfolding all_kept
all_append [] b t k = ap (λ (n : ℕ). all_kept t n b) (omega arith)
all_append (r ∷ a) b t k = let e : suc k + length a ≡ k + suc (length a) = omega arith in all_append a b _ (suc k) ∙ ap (λ (n : ℕ). all_kept (all_kept t k (r ∷ a)) n b) e

-- a record in a slot before theirs may come first
all_apart : (rs : List (List ℤ)) (t : Tables) (i k : ℕ) (h : List ℤ) → i < k → length h ≡ 16 → kept_in (all_kept t k rs) i h ≡ all_kept (kept_in t i h) k rs
unfolding all_kept
all_apart [] t i k h l e = refl
all_apart (r ∷ rs) t i k h l e = all_apart rs (kept_in t k r) i (suc k) h (omega arith) e ∙ ap (λ (u : Tables). all_kept u (suc k) rs) (in_apart t i k r h l e)

-- a head kept when its items are
pub all_head : (rs : List (List ℤ)) (t : Tables) (k : ℕ) (h : List ℤ) → length h ≡ 16 → kept_in (all_kept t (suc k) rs) k h ≡ all_kept t k (h ∷ rs)
unfolding all_kept
all_head rs t k h e = all_apart rs t k (suc k) h (omega arith) e

-- of the tables, one of either layout
module _ {A : Type 0} (d : Layout A) (of : Tables → List A) (one : (t : Tables) (k : ℕ) (r : List ℤ) → of (kept_in t k r) ≡ kept d (of t) k r) where
  -- where it has room for all records, they are written over it
  pub all_laid : (rs : List (List ℤ)) (t : Tables) (k : ℕ) → (k + length rs) * d.width ≤ length (of t) → of (all_kept t k rs) ≡ laid d (of t) k rs
  unfolding all_kept laid
  all_laid [] t k h = refl
  all_laid (r ∷ rs) t k h =
      let e : suc k + length rs ≡ k + suc (length rs) = omega arith in
      all_laid rs (kept_in t k r) (suc k) (rw (e, one t k r, length_kept d (of t) k r) h)
      ∙ ap (λ (l : List A). laid d l (suc k) rs) (one t k r ∙ kept_fits d (of t) k r (le_trans room h))
    where
      room : k * d.width + d.width ≤ (k + suc (length rs)) * d.width
      room = rw (← suc-mul k d.width) (mul-le-mul_right d.width (omega arith))
