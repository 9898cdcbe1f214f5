-- A table's records, slot by slot.
use Prim.Native.Nat.{ℕ, zero, suc, ◌+◌, ◌*◌, ◌-◌, ◌/◌, ◌≤◌, ◌<◌}
use native.Mathlib.Nat.{div-add-mod'}
use native.Mathlib.Numerals.{add-one}
use native.Mathlib.Omega.{arith}
use mathlib.Core.List.{List, [], ◌∷◌, ◌++◌}
use mathlib.Core.Bool.{false}
use mathlib.Core.Path.{◌≡◌, sym, ap, ◌∙◌}
use lib.IntN.{ℤ}
use lib.ListN.{length, take, set}
use lib.Seq.{take-suc-set}
use Rattle.lent_slots.specs.Tables.{Tables}
use Rattle.lent_slots.specs.Slots.{word_from, words_from, is_words, record_at, slots, records_from}

-- ---- the words of bytes

pub words_more : (i : ℕ) (b : List ℕ) (p : ℕ) → words_from (suc i) b p ≡ words_from i b p ++ (word_from b (p + i * 4) ∷ [])
unfolding words_from
words_more zero b p = let h : p + 0 * 4 ≡ p = omega arith in rw h
words_more (suc i) b p =
    let h : p + 4 + i * 4 ≡ p + suc i * 4 = omega arith in
    let q : words_from (suc i) b (p + 4) ≡ words_from i b (p + 4) ++ (word_from b (p + 4 + i * 4) ∷ []) = words_more i b (p + 4) in
    ap (λ (l : List ℤ). word_from b p ∷ l) (q ∙ ap (λ n. words_from i b (p + 4) ++ (word_from b n ∷ [])) h)

-- the first i words are taken from bytes
pub word_more : (w : List ℤ) (b : List ℕ) (p i : ℕ) {v : ℤ} → i < length w → v ≡ word_from b (p + i * 4) → take i w ≡ words_from i b p → take (i + 1) (set w i v) ≡ words_from (i + 1) b p
word_more w b p i {v} h e q = rw (add-one i, take-suc-set w i v h, q, e) (sym (words_more i b p))

-- ---- slots

-- a slot that a table has lies in its words, or in its bytes
module _ (t : Tables) (k : ℕ) where
  pub words_slot : length t.1 ≡ 0 → k < slots t → k * 16 + 16 ≤ length t.0
  unfolding slots
  words_slot e h = let g : k < length t.0 / 16 = rw e at h in omega (arith, div-add-mod' (length t.0) 16)

  pub bytes_slot : is_words t ≡ false → k < slots t → k * 64 + 64 ≤ length t.1
  unfolding slots
  bytes_slot e h = let g : k < length t.1 / 64 = rw e at h in omega (arith, div-add-mod' (length t.1) 64)

pub slot_next : (t : Tables) (n k : ℕ) → k < n → records_from t (n - k) k ≡ record_at t k ∷ records_from t (n - (k + 1)) (k + 1)
unfolding records_from
slot_next t n k h = let e : n - k ≡ suc (n - (k + 1)) = omega arith in rw (e, add-one k)

pub slot_end : (t : Tables) (n k : ℕ) → n ≤ k → records_from t (n - k) k ≡ []
unfolding records_from
slot_end t n k h = let e : n - k ≡ 0 = omega arith in rw e
