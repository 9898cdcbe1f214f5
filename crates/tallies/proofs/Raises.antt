-- Counts that are raised: from a place on, and one of them; and a sum after a sum.
use Rattle.std.proofs.lemmas.Option.{none-some, same_Some}
use Prim.Native.Nat.{ℕ, ◌+◌, ◌≤◌, ◌<◌}
use native.Mathlib.Nat.{add-zero}
use native.Mathlib.Omega.{arith}
use mathlib.Core.List.{List, ◌++◌}
use mathlib.Core.Bool.{Bool, true, false, true≢false}
use mathlib.Core.Path.{◌≡◌, refl, sym, ap, ◌∙◌}
use lib.ListN.{length, get_or, take, set, replicate, length-set}
use lib.Seq.{take_all, get_or-set_same}
use native.Mathlib.Numerals.{add-one}
use Rattle.lent_slots.proofs.Stores.{taken_more}
use Rattle.std.specs.Prelude.{Some, None}
use Rattle.tallies.specs.Sums.{plus, most, all_within, sum_within}
use Rattle.tallies.proofs.Adds.{plus_length, plus_at, plus_group, plus_swap, plus_fresh, plus_join, one_plus, set_join, within_part, within_more, within_not, within_take, within_set, place_length, place_at, place_take}

-- ---- a sum within the limit, or none

module _ (xs ys : List ℕ) where
  pub sum_some : all_within (plus xs ys) ≡ true → sum_within xs ys ≡ Some (plus xs ys)
  unfolding sum_within
  sum_some e = rw e

  pub sum_none : all_within (plus xs ys) ≡ false → sum_within xs ys ≡ None
  unfolding sum_within
  sum_none e = rw e

  pub none_past : sum_within xs ys ≡ None → all_within (plus xs ys) ≡ false
  none_past e = go (all_within (plus xs ys)) refl
    where
      go : (t : Bool) → all_within (plus xs ys) ≡ t → t ≡ false
      go true p = absurd (none-some (plus xs ys) (sym e ∙ sum_some p))
      go false p = refl

  pub some_is : {s : List ℕ} → sum_within xs ys ≡ Some s → (plus xs ys ≡ s) × (all_within (plus xs ys) ≡ true)
  some_is {s} e = go (all_within (plus xs ys)) refl
    where
      go : (t : Bool) → all_within (plus xs ys) ≡ t → (plus xs ys ≡ s) × (t ≡ true)
      go true p = (same_Some (plus xs ys) s (sym (sum_some p) ∙ e), refl)
      go false p = absurd (none-some s (sym (sum_none p) ∙ e))

  pub within_sum : {s : List ℕ} → sum_within xs ys ≡ Some s → all_within s ≡ true
  within_sum e = let q = some_is e in ap all_within (sym q.0) ∙ q.1

-- what passes the limit passes it with more besides
pub refused_part : (xs ys : List ℕ) → length xs ≡ length ys → all_within xs ≡ false → all_within (plus xs ys) ≡ false
refused_part xs ys l e = go (all_within (plus xs ys)) refl
  where
    go : (t : Bool) → all_within (plus xs ys) ≡ t → t ≡ false
    go true p = absurd (true≢false (sym (within_part xs ys l p) ∙ e))
    go false p = refl

-- a sum after a sum
module _ (xs ys zs : List ℕ) (l : length (plus xs ys) ≡ length zs) where
  pub none_after : sum_within xs ys ≡ None → sum_within xs (plus ys zs) ≡ None
  none_after e = sum_none xs (plus ys zs) (ap all_within (sym (plus_group xs ys zs)) ∙ refused_part (plus xs ys) zs l (none_past xs ys e))

  pub sum_after : {s : List ℕ} → sum_within xs ys ≡ Some s → sum_within xs (plus ys zs) ≡ sum_within s zs
  unfolding sum_within
  sum_after e = rw (sym (plus_group xs ys zs), (some_is xs ys e).0)

-- ---- from a place on

module _ (t : List ℕ) (at : ℕ) (more : List ℕ) (all : at + length more ≡ 34) (thirty-four : length t ≡ 34) where
  abbrev pub whole : List ℕ
  whole = plus t (replicate at 0 ++ more)

  more_length : length (replicate at 0 ++ more) ≡ 34
  more_length = place_length at more ∙ all

  pub whole_length : length whole ≡ 34
  whole_length = plus_length t (replicate at 0 ++ more) (thirty-four ∙ sym more_length) ∙ thirty-four

  whole_at : (i : ℕ) → i < length more → get_or whole (at + i) 0 ≡ get_or t (at + i) 0 + get_or more i 0
  whole_at i h = plus_at t (replicate at 0 ++ more) (at + i) (omega arith) (omega (arith, more_length)) ∙ ap (λ n. get_or t (at + i) 0 + n) (place_at at more i)

  pub raise_refused : (i : ℕ) → i < length more → most < get_or t (at + i) 0 + get_or more i 0 → sum_within t (replicate at 0 ++ more) ≡ None
  raise_refused i h g = sum_none t (replicate at 0 ++ more) (within_not whole (at + i) (omega (arith, whole_length)) (omega (arith, whole_at i h)))

  pub raise_starts : all_within t ≡ true → (take (at + 0) t ≡ take (at + 0) whole) × (all_within (take (at + 0) whole) ≡ true)
  raise_starts w =
      let e : take at whole ≡ take at t = place_take at t more (omega arith) in
      rw (add-zero at) (sym e, ap all_within e ∙ within_take at t w)

  pub raise_more : (s : List ℕ) (i : ℕ) {v : ℕ} → length s ≡ 34 → i < length more → v ≡ get_or t (at + i) 0 + get_or more i 0 → v ≤ most → take (at + i) s ≡ take (at + i) whole →
      all_within (take (at + i) whole) ≡ true → (take (at + (i + 1)) (set s (at + i) v) ≡ take (at + (i + 1)) whole) × (all_within (take (at + (i + 1)) whole) ≡ true)
  raise_more s i {v} l h e g p w =
      let j : at + (i + 1) ≡ at + i + 1 = omega arith in
      let b : at + i < length s = omega arith in
      let d : at + i < length whole = omega (arith, whole_length) in
      let x : v ≡ get_or whole (at + i) 0 = e ∙ sym (whole_at i h) in
      let y : get_or whole (at + i) 0 ≤ most = omega arith in
      rw j (taken_more 0 s whole (at + i) b d x p, rw (add-one (at + i)) (within_more whole (at + i) w y))

  pub raise_ends : (s : List ℕ) (i : ℕ) → length s ≡ 34 → length more ≤ i → i ≤ length more → take (at + i) s ≡ take (at + i) whole → all_within (take (at + i) whole) ≡ true →
      sum_within t (replicate at 0 ++ more) ≡ Some s
  raise_ends s i l h k p w =
      let e : at + i ≡ 34 = omega arith in
      let a : take 34 whole ≡ whole = take_all 34 whole (omega (arith, whole_length)) in
      let b : take 34 s ≡ s = take_all 34 s (omega arith) in
      let q : take 34 s ≡ take 34 whole = rw e at p in
      let u : all_within (take 34 whole) ≡ true = rw e at w in
      sum_some t (replicate at 0 ++ more) (ap all_within (sym a) ∙ u) ∙ ap Some (sym (sym b ∙ q ∙ a))

-- ---- one count

module _ (t : List ℕ) (n : ℕ) (thirty-four : length t ≡ 34) (below : n < 34) where
  pub one_refused : most < get_or t n 0 + 1 → sum_within t (set (replicate 34 0) n 1) ≡ None
  one_refused h =
      let s = set t n (get_or t n 0 + 1) in
      let q : get_or s n 0 ≡ get_or t n 0 + 1 = get_or-set_same t n (get_or t n 0 + 1) 0 (omega arith) in
      sum_none t (set (replicate 34 0) n 1) (ap all_within (one_plus t 34 n 1 thirty-four) ∙ within_not s n (omega (arith, length-set t n (get_or t n 0 + 1))) (omega arith))

  pub one_raised : all_within t ≡ true → get_or t n 0 + 1 ≤ most → sum_within t (set (replicate 34 0) n 1) ≡ Some (set t n (get_or t n 0 + 1))
  one_raised w h =
      let e = one_plus t 34 n 1 thirty-four in
      sum_some t (set (replicate 34 0) n 1) (ap all_within e ∙ within_set t n (get_or t n 0 + 1) w h) ∙ ap Some e

-- ---- an answer's number, and its last ten counts

pub numbered : (n : ℕ) (more : List ℕ) → n < 24 → length more ≡ 10 → plus (set (replicate 34 0) n 1) (replicate 24 0 ++ more) ≡ set (replicate 24 0) n 1 ++ more
numbered n more h l =
    let a = set {A = ℕ} (replicate 24 0) n 1 in
    let m : length a ≡ 24 = length-set (replicate 24 0) n 1 in
    let split : set (replicate 34 0) n 1 ≡ a ++ replicate 10 0 = set_join (replicate 24 0) (replicate 10 0) n 1 h in
    let front : plus a (replicate 24 0) ≡ a = ap (λ j. plus a (replicate j 0)) (sym m) ∙ plus_fresh a in
    let back : plus (replicate 10 0) more ≡ more = plus_swap (replicate 10 0) more (sym l) ∙ ap (λ j. plus more (replicate j 0)) (sym l) ∙ plus_fresh more in
    ap (λ (x : List ℕ). plus x (replicate 24 0 ++ more)) split ∙ plus_join a (replicate 10 0) (replicate 24 0) more m ∙ ap (λ (x : List ℕ). x ++ plus (replicate 10 0) more) front ∙ ap (λ (x : List ℕ). a ++ x) back

module _ (t : List ℕ) (n : ℕ) (more : List ℕ) (thirty-four : length t ≡ 34) (below : n < 24) (ten : length more ≡ 10) where
  abbrev first : List ℕ
  first = set (replicate 34 0) n 1

  abbrev last : List ℕ
  last = replicate 24 0 ++ more

  both_sums : plus first last ≡ set (replicate 24 0) n 1 ++ more
  both_sums = numbered n more below ten

  sum_length : length (plus t first) ≡ length last
  sum_length = plus_length t first (thirty-four ∙ sym (length-set (replicate 34 0) n 1)) ∙ thirty-four ∙ sym (place_length 24 more ∙ ap (λ k. 24 + k) ten)

  pub summed_none : sum_within t first ≡ None → sum_within t (set (replicate 24 0) n 1 ++ more) ≡ None
  summed_none e = ap (sum_within t) (sym both_sums) ∙ none_after t first last sum_length e

  pub summed_some : {s : List ℕ} → sum_within t first ≡ Some s → sum_within t (set (replicate 24 0) n 1 ++ more) ≡ sum_within s last
  summed_some e = ap (sum_within t) (sym both_sums) ∙ sum_after t first last sum_length e

pub ruleset number_steps = (summed_none, summed_some)
