-- The counts of a table's records, record by record.
use Rattle.std.specs.Prelude.{Some, None}
use Prim.Native.Nat.{ℕ, zero, suc, ◌+◌, ◌-◌, ◌≤◌, ◌<◌}
use native.Mathlib.Nat.{div-add-mod'}
use native.Mathlib.Nat.{sub-zero}
use native.Mathlib.Omega.{arith}
use mir.Facts.{to_z-of_z}
use mathlib.Core.List.{List, [], ◌∷◌}
use mathlib.Core.Bool.{Bool, true, false, true≢false}
use mathlib.Core.Path.{◌≡◌, refl, sym, ap, ◌∙◌}
use borrow.Author.Tests.{le-leb}
use lib.IntN.{ℤ, pos}
use lib.ListN.{length, get_or, set, replicate, length-set}
use lib.Seq.{get_or-set_same}
use Rattle.std.proofs.lemmas.List.{get_or-set_other}
use Rattle.lent_slots.specs.Tables.{Tables}
use Rattle.records.specs.Ranges.{between, from, exactly}
use Rattle.records.specs.Fits.{word_at}
use Rattle.records.specs.Told.{byte_at}
use Rattle.lent_slots.specs.Slots.{record_at, records_from}
use Rattle.records.proofs.WordLaws.{from_is, exactly_is, number_at_lem}
use Rattle.lent_slots.proofs.SlotLaws.{slot_next, slot_end}
use Rattle.tallies.specs.Sums.{plus, most, all_within, sum_within}
use Rattle.tallies.specs.Counts.{marks_of, record_counts, total, own}
use Rattle.tallies.proofs.Adds.{plus_length, plus_fresh, plus_set, one_plus, within_not, within_set}
use Rattle.tallies.proofs.Raises.{sum_some, sum_none, none_after, sum_after, within_sum}

nothing_more : (c : List ℕ) → length c ≡ 10 → all_within c ≡ true → sum_within c (replicate 10 0) ≡ Some c
nothing_more c ten w = let e : plus c (replicate 10 0) ≡ c = ap (λ j. plus c (replicate j 0)) (sym ten) ∙ plus_fresh c in sum_some c (replicate 10 0) (ap all_within e ∙ w) ∙ ap Some e

-- ---- a record

pub record_length : (w : List ℤ) → length (record_counts w) ≡ 10
unfolding record_counts
record_length w = refl

kind_in_lem : (k : ℕ) → 2 ≤ k → k ≤ 8 → from 2 8 (pos k) ≡ true
unfolding between
kind_in_lem k a b = rw (le-leb 2 k a, le-leb k 8 b)

not_kind : (k : ℕ) (x : ℤ) → 2 ≤ k → k ≤ 8 → from 2 8 x ≡ false → exactly k x ≡ false
not_kind k x a b e = go (exactly k x) refl
  where
    go : (t : Bool) → exactly k x ≡ t → t ≡ false
    go true p = absurd (true≢false (sym (ap (from 2 8) (exactly_is k x p) ∙ kind_in_lem k a b) ∙ e))
    go false p = refl

-- no item: nothing is counted
pub no_item : (w : List ℤ) → from 2 8 (word_at w 0) ≡ false → record_counts w ≡ replicate 10 0
unfolding record_counts marks_of
no_item w e =
    let x = word_at w 0 in
    rw (
      not_kind 2 x (omega arith) (omega arith) e,
      not_kind 3 x (omega arith) (omega arith) e,
      not_kind 4 x (omega arith) (omega arith) e,
      not_kind 5 x (omega arith) (omega arith) e,
      not_kind 6 x (omega arith) (omega arith) e,
      not_kind 7 x (omega arith) (omega arith) e,
      not_kind 8 x (omega arith) (omega arith) e,
    )

-- an item of kind k: one there, and its marks
pub item_counts : (w : List ℤ) (k : ℕ) → word_at w 0 ≡ pos k → 2 ≤ k → k ≤ 8 → record_counts w ≡ set (set (replicate 10 0) k 1) 9 (marks_of w)
unfolding record_counts between
item_counts w zero e a b = absurd (omega arith)
item_counts w (suc zero) e a b = absurd (omega arith)
item_counts w (suc (suc zero)) e a b = rw e
item_counts w (suc (suc (suc zero))) e a b = rw e
item_counts w (suc (suc (suc (suc zero)))) e a b = rw e
item_counts w (suc (suc (suc (suc (suc zero))))) e a b = rw e
item_counts w (suc (suc (suc (suc (suc (suc zero)))))) e a b = rw e
item_counts w (suc (suc (suc (suc (suc (suc (suc zero))))))) e a b = rw e
item_counts w (suc (suc (suc (suc (suc (suc (suc (suc zero)))))))) e a b = rw e
item_counts w (suc (suc (suc (suc (suc (suc (suc (suc (suc k))))))))) e a b = absurd (omega arith)

-- ---- a record is counted

module _ (c : List ℕ) (w : List ℤ) (ten : length c ≡ 10) where
  pub counted_none : all_within c ≡ true → from 2 8 (word_at w 0) ≡ false → sum_within c (record_counts w) ≡ Some c
  counted_none h e = ap (sum_within c) (no_item w e) ∙ nothing_more c ten h

  module _ (e : from 2 8 (word_at w 0) ≡ true) where
    kind_word_lem : word_at w 0 ≡ pos (byte_at w 0)
    kind_word_lem = sym (number_at_lem 2 8 255 w 0 e (omega arith))

    pub kind_bounds : (2 ≤ byte_at w 0) × (byte_at w 0 ≤ 8)
    kind_bounds = let q : from 2 8 (pos (byte_at w 0)) ≡ true = ap (from 2 8) (sym kind_word_lem) ∙ e in (from_is 2 8 (pos (byte_at w 0)) q).1

    raised : List ℕ
    raised = set (set c (byte_at w 0) (get_or c (byte_at w 0) 0 + 1)) 9 (get_or c 9 0 + marks_of w)

    item_sum : plus c (record_counts w) ≡ raised
    unfolding raised
    item_sum =
        let k = byte_at w 0 in
        let ones = set {A = ℕ} (replicate 10 0) k 1 in
        ap (plus c) (item_counts w k kind_word_lem kind_bounds.0 kind_bounds.1)
        ∙ plus_set c ones 9 (marks_of w)
        ∙ ap (λ (l : List ℕ). set l 9 (get_or c 9 0 + marks_of w)) (one_plus c 10 k 1 ten)

    past : (i : ℕ) → i < 10 → most < get_or raised i 0 → sum_within c (record_counts w) ≡ None
    unfolding raised
    past i h g = sum_none c (record_counts w) (ap all_within item_sum ∙ within_not raised i (simp length-set (omega arith)) g)

    pub items_past : most < get_or c (byte_at w 0) 0 + 1 → sum_within c (record_counts w) ≡ None
    unfolding raised
    items_past h =
        let k = byte_at w 0 in
        let b = kind_bounds in
        let v = get_or c k 0 + 1 in
        let kept : get_or raised k 0 ≡ get_or (set c k v) k 0 = get_or-set_other (set c k v) 9 k (get_or c 9 0 + marks_of w) 0 (λ e. omega arith) in
        past k (omega arith) (rw (kept, get_or-set_same c k v 0 (omega arith)) h)

    pub marks_past : most < get_or c 9 0 + marks_of w → sum_within c (record_counts w) ≡ None
    unfolding raised
    marks_past h =
        let k = byte_at w 0 in
        past 9 (omega arith) (rw (get_or-set_same (set c k (get_or c k 0 + 1)) 9 (get_or c 9 0 + marks_of w) 0 (simp length-set (omega arith))) h)

    pub counted_item : all_within c ≡ true → get_or c (byte_at w 0) 0 + 1 ≤ most → get_or c 9 0 + marks_of w ≤ most →
        sum_within c (record_counts w) ≡ Some (set (set c (byte_at w 0) (get_or c (byte_at w 0) 0 + 1)) 9 (get_or c 9 0 + marks_of w))
    unfolding raised
    counted_item h i m =
        let k = byte_at w 0 in
        let v = get_or c k 0 + 1 in
        sum_some c (record_counts w) (ap all_within item_sum ∙ within_set (set c k v) 9 (get_or c 9 0 + marks_of w) (within_set c k v h i) m) ∙ ap Some item_sum

pub ruleset record_steps = (counted_none, kind_bounds, items_past, marks_past, counted_item, to_z-of_z)

-- ---- records one after the other

pub total_length : (ws : List (List ℤ)) → length (total ws) ≡ 10
unfolding total
total_length [] = refl
total_length (w ∷ ws) = plus_length (record_counts w) (total ws) (record_length w ∙ sym (total_length ws)) ∙ record_length w

module _ (t : Tables) (n k : ℕ) (c : List ℕ) (ten : length c ≡ 10) where
  abbrev rest : List ℕ
  rest = total (records_from t (n - (k + 1)) (k + 1))

  same_length : length (plus c (record_counts (record_at t k))) ≡ length rest
  same_length = plus_length c (record_counts (record_at t k)) (ten ∙ sym (record_length (record_at t k))) ∙ ten ∙ sym (total_length (records_from t (n - (k + 1)) (k + 1)))

  next : k < n → total (records_from t (n - k) k) ≡ plus (record_counts (record_at t k)) rest
  unfolding total
  next h = rw (slot_next t n k h)

  pub total_none : k < n → sum_within c (record_counts (record_at t k)) ≡ None → sum_within c (total (records_from t (n - k) k)) ≡ None
  total_none h e = ap (sum_within c) (next h) ∙ none_after c (record_counts (record_at t k)) rest same_length e

  pub total_next : {s : List ℕ} → k < n → sum_within c (record_counts (record_at t k)) ≡ Some s → sum_within c (total (records_from t (n - k) k)) ≡ sum_within s (total (records_from t (n - (k + 1)) (k + 1)))
  total_next h e = ap (sum_within c) (next h) ∙ sum_after c (record_counts (record_at t k)) rest same_length e

  pub total_end : all_within c ≡ true → n ≤ k → sum_within c (total (records_from t (n - k) k)) ≡ Some c
  unfolding total
  total_end w h = rw (slot_end t n k h) (nothing_more c ten w)

pub own_within : (n : ℕ) → n ≤ most → all_within (own n) ≡ true
unfolding all_within
own_within n h = rw (le-leb n most h)

pub ruleset total_steps = (total_none, total_next, total_end, own_within, within_sum, sub-zero)
