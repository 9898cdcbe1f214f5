-- What fits, and what a tally answers, case by case.
use Prim.Native.Nat.{ℕ, ◌+◌, ◌≤◌}
use native.Mathlib.Omega.{arith}
use mathlib.Core.List.{List, [], ◌∷◌, ◌++◌}
use mathlib.Core.Bool.{Bool, true, false, ◌&&◌, ◌||◌}
use mathlib.Core.Path.{◌≡◌, refl, sym, ap, ◌∙◌}
use borrow.Author.Tests.{eq-eqb, ne_eqb, eqb-true, leb-true}
use lib.Dec.{eqb, leb}
use lib.ListN.{length, set, replicate, length-set, length-append}
use Rattle.names.specs.Tests.{within}
use Rattle.lent_slots.specs.Tables.{Tables}
use Rattle.lent_slots.specs.Slots.{records_of}
use Rattle.records.proofs.Tests.{both, either}
use Rattle.std.specs.Prelude.{Some, None, Result, Ok, Err}
use Rattle.tallies.specs.Sums.{plus, most, all_within, sum_within}
use Rattle.tallies.specs.Counts.{total, own, counts_of}
use Rattle.tallies.specs.Answers.{number_fits, accepted_fits, refused_fits, answer_fits, taken_in, numbers}
use Rattle.tallies.specs.Refusals.{number}
use Rattle.tallies.specs.Stored.{counts_in, stored_in, tally_in, taken_in_bytes}
use Rattle.tallies.specs.declared.Tally.{Tally}
use Rattle.tallies.specs.declared.refusals.TallyRefusal.{TallyRefusal}
use Rattle.tallies.specs.declared.refusals.TallyRefusal.TheVariants.{OverTheLimit, NoFit}
use Rattle.tallies.specs.declared.Answer.{Answer}
use Rattle.tallies.proofs.Adds.{plus_length, plus_swap}
use Rattle.tallies.proofs.Raises.{sum_none, none_past, some_is, refused_part}
use Rattle.tallies.proofs.Counting.{total_length}

module _ (a : Answer) (t : Tables) where
  pub accepted_fits_lem : a.number ≡ 0 → answer_fits a t ≡ accepted_fits a t
  unfolding answer_fits number_fits
  accepted_fits_lem e = rw e

  pub refused_fits_lem : (a.number ≡ 0 → ⊥) → answer_fits a t ≡ (number_fits a.number && refused_fits a t)
  unfolding answer_fits
  refused_fits_lem h = rw (ne_eqb a.number 0 h)

pub ruleset fit_steps = (accepted_fits_lem, refused_fits_lem)

within_up : (lo hi n : ℕ) → within lo hi n ≡ true → n ≤ hi
unfolding within
within_up lo hi n e = leb-true n hi (both (leb lo n) e).1

pub number_up : (n : ℕ) → number_fits n ≡ true → n ≤ 23
unfolding number_fits
number_up n e =
    either (n ≤ 23) (leb n 1) (within 3 13 n || (eqb n 19 || within 22 23 n)) e (λ a. omega (arith, leb-true n 1 a))
    (λ a. either (n ≤ 23) (within 3 13 n) (eqb n 19 || within 22 23 n) a (λ b. omega (arith, within_up 3 13 n b))
    (λ b. either (n ≤ 23) (eqb n 19) (within 22 23 n) b (λ d. omega (arith, eqb-true n 19 d)) (λ d. within_up 22 23 n d)))

pub fitting_up : (a : Answer) (t : Tables) → answer_fits a t ≡ true → a.number ≤ 23
unfolding answer_fits
fitting_up a t e = number_up a.number (both (number_fits a.number) e).0

pub total_ten : (a : Answer) (t : Tables) → length (plus (own a.warnings) (total (records_of t))) ≡ 10
total_ten a t = plus_length (own a.warnings) (total (records_of t)) (sym (total_length (records_of t)))

pub counts_long : (a : Answer) (t : Tables) → length (counts_of a t) ≡ 34
unfolding counts_of
counts_long a t =
    length-append (set (replicate 24 0) a.number 1) (plus (own a.warnings) (total (records_of t)))
    ∙ ap (λ n. n + length (plus (own a.warnings) (total (records_of t)))) (length-set {A = ℕ} (replicate 24 0) a.number 1)
    ∙ ap (λ n. 24 + n) (total_ten a t)

within_second : (xs ys : List ℕ) → all_within ys ≡ false → all_within (xs ++ ys) ≡ false
unfolding all_within
within_second [] ys e = e
within_second (x ∷ xs) ys e = rw (within_second xs ys e) (and_false (leb x most))
  where
    and_false : (b : Bool) → (b && false) ≡ false
    and_false true = refl
    and_false false = refl

-- an answer's counts: that of its number, and its totals
module _ (xs : List ℕ) (a : Answer) (t : Tables) where
  pub added_none : length xs ≡ 34 → sum_within (own a.warnings) (total (records_of t)) ≡ None → sum_within xs (counts_of a t) ≡ None
  unfolding counts_of
  added_none long e =
      let last = plus (own a.warnings) (total (records_of t)) in
      let same : length xs ≡ length (counts_of a t) = long ∙ sym (counts_long a t) in
      let past : all_within (counts_of a t) ≡ false = within_second (set (replicate 24 0) a.number 1) last (none_past (own a.warnings) (total (records_of t)) e) in
      sum_none xs (counts_of a t) (ap all_within (plus_swap xs (counts_of a t) same) ∙ refused_part (counts_of a t) xs (sym same) past)

  pub added_some : {more : List ℕ} → sum_within (own a.warnings) (total (records_of t)) ≡ Some more → sum_within xs (set (replicate 24 0) a.number 1 ++ more) ≡ sum_within xs (counts_of a t)
  unfolding counts_of
  added_some e = rw (some_is (own a.warnings) (total (records_of t)) e).0

pub ruleset add_steps = (added_none, added_some)

module _ (xs : List ℕ) (a : Answer) (t : Tables) where
  pub taken_16 : answer_fits a t ≡ false → taken_in xs a t ≡ (16, xs)
  unfolding taken_in
  taken_16 e = rw e

  pub taken_15 : answer_fits a t ≡ true → all_within (plus xs (counts_of a t)) ≡ false → taken_in xs a t ≡ (15, xs)
  unfolding taken_in
  taken_15 e f = rw (e, f)

  pub taken_0 : answer_fits a t ≡ true → all_within (plus xs (counts_of a t)) ≡ true → taken_in xs a t ≡ (0, plus xs (counts_of a t))
  unfolding taken_in
  taken_0 e f = rw (e, f)

  -- the same of what the code adds up
  pub over_limit : answer_fits a t ≡ true → sum_within xs (counts_of a t) ≡ None → taken_in xs a t ≡ (15, xs)
  over_limit e f = taken_15 e (none_past xs (counts_of a t) f)

  pub taken_sum : {s : List ℕ} → answer_fits a t ≡ true → sum_within xs (counts_of a t) ≡ Some s → taken_in xs a t ≡ (0, s)
  taken_sum e f = let q = some_is xs (counts_of a t) f in taken_0 e q.1 ∙ ap (λ (c : List ℕ). (0, c)) q.0

pub ruleset take_steps = (fitting_up, taken_16, over_limit, taken_sum)

-- ---- tallies in bytes

module _ (b : List ℕ) where
  tally_held : eqb (length b) 136 ≡ true → tally_in b ≡ Ok (record { counts = counts_in b })
  unfolding tally_in
  tally_held e = rw e

  tally_refused : eqb (length b) 136 ≡ false → tally_in b ≡ Err NoFit
  unfolding tally_in
  tally_refused e = rw e

  pub held_counts : {x : Tally} → tally_in b ≡ Ok x → x.counts ≡ counts_in b
  held_counts {x} e = go (eqb (length b) 136) refl
    where
      go : (t : Bool) → eqb (length b) 136 ≡ t → x.counts ≡ counts_in b
      go true p = let q = tally_held p in cc
      go false p = let q = tally_refused p in cc

  pub held_long : {x : Tally} → tally_in b ≡ Ok x → length b ≡ 136
  held_long {x} e = go (eqb (length b) 136) refl
    where
      go : (t : Bool) → eqb (length b) 136 ≡ t → length b ≡ 136
      go true p = eqb-true (length b) 136 p
      go false p = let q = tally_refused p in cc

  pub refused_length : {e : TallyRefusal} → tally_in b ≡ Err e → (length b ≡ 136 → ⊥)
  refused_length r l = let q = tally_held (eq-eqb (length b) 136 l) in cc

  pub refused_number : {e : TallyRefusal} → tally_in b ≡ Err e → number e ≡ 16
  refused_number {e} r = go (eqb (length b) 136) refl
    where
      go : (t : Bool) → eqb (length b) 136 ≡ t → number e ≡ 16
      go true p = let q = tally_held p in cc
      go false p = let q = tally_refused p in let same : e ≡ NoFit = cc in ap number same

  -- what a refusal leaves of the counts is not stored
  pub same_stored : (xs : List ℕ) (r : Result Tally TallyRefusal) → stored_in b (numbers [] r) ≡ stored_in b (numbers xs r)
  same_stored xs (Ok t) = refl
  same_stored xs (Err OverTheLimit) = refl
  same_stored xs (Err NoFit) = refl

module _ (b : List ℕ) (a : Answer) (table : List ℕ) where
  pub bytes_refused : (e : TallyRefusal) → tally_in b ≡ Err e → stored_in b (number e, []) ≡ taken_in_bytes b a table
  unfolding taken_in_bytes
  bytes_refused e q = rw (refused_number b q, ne_eqb (length b) 136 (refused_length b q))

  pub bytes_taken : (x : Tally) (r : Result Tally TallyRefusal) → tally_in b ≡ Ok x → numbers x.counts r ≡ taken_in x.counts a ([], table) → stored_in b (numbers [] r) ≡ taken_in_bytes b a table
  unfolding taken_in_bytes
  bytes_taken x r q e = rw (eq-eqb (length b) 136 (held_long b q), same_stored b x.counts r, e, held_counts b q)

pub ruleset byte_steps = (held_long, bytes_refused, bytes_taken)
