-- Joining: what it answers; order and grouping do not matter; the fresh tally changes nothing; one refused join refuses the whole.
use Rattle.std.specs.Prelude.{if◌then◌else◌, Some, None, Result, Ok, Err}
use Prim.Native.Nat.{ℕ}
use mathlib.Core.List.{List, [], ◌∷◌, ◌++◌}
use mathlib.Core.Option.{Option, none, some}
use mathlib.Core.Bool.{Bool, true, false, ◌&&◌}
use mathlib.Core.Path.{◌≡◌, refl, sym, ap, ◌∙◌}
use borrow.Author.Tests.{eq-eqb, ne_eqb}
use lib.Dec.{eqb}
use lib.ListN.{length, replicate}
use Rattle.tallies.specs.Sums.{plus, all_within, sum_within}
use Rattle.tallies.specs.Counts.{counts_of}
use Rattle.tallies.specs.Refusals.{number}
use Rattle.tallies.specs.Answers.{numbers}
use Rattle.tallies.specs.Stored.{stored_in, tally_in}
use Rattle.tallies.specs.declared.Tally.{Tally}
use Rattle.tallies.specs.declared.refusals.TallyRefusal.{TallyRefusal}
use Rattle.tallies.specs.Figures.{Read, figures}
use Rattle.tallies.specs.Joins.{joined_to, joined_bytes, Tree, tally, join, tallies, unrefused, both, joined_all, Reordered, same, swapped, after, through, IsTally, AreTallies}
use Rattle.tallies.proofs.Adds.{plus_length, plus_group, plus_swap, plus_fresh}
use Rattle.tallies.proofs.Raises.{none_past, some_is, refused_part}
use Rattle.tallies.proofs.Judged.{held_counts, held_long, refused_length, refused_number, same_stored}
use Rattle.tallies.proofs.Lists.{figures_next, figures_none, figures_length}

module _ (xs ys : List ℕ) where
  pub joined_15 : all_within (plus xs ys) ≡ false → joined_to xs ys ≡ (15, xs)
  unfolding joined_to
  joined_15 e = rw e

  pub joined_0 : all_within (plus xs ys) ≡ true → joined_to xs ys ≡ (0, plus xs ys)
  unfolding joined_to
  joined_0 e = rw e

  -- the same of what the code adds up
  pub joined_over : sum_within xs ys ≡ None → joined_to xs ys ≡ (15, xs)
  joined_over e = joined_15 (none_past xs ys e)

  pub joined_sum : {s : List ℕ} → sum_within xs ys ≡ Some s → joined_to xs ys ≡ (0, s)
  joined_sum e = let q = some_is xs ys e in joined_0 q.1 ∙ ap (λ (c : List ℕ). (0, c)) q.0

pub ruleset join_steps = (joined_over, joined_sum)

and_false : (t : Bool) → (t && false) ≡ false
and_false true = refl
and_false false = refl

-- ---- tallies in bytes

module _ (b o : List ℕ) where
  pub first_refused : (e : TallyRefusal) → tally_in b ≡ Err e → stored_in b (number e, []) ≡ joined_bytes b o
  unfolding joined_bytes
  first_refused e q = rw (refused_number b q, ne_eqb (length b) 136 (refused_length b q))

  pub second_refused : (e : TallyRefusal) → tally_in o ≡ Err e → stored_in b (number e, []) ≡ joined_bytes b o
  unfolding joined_bytes
  second_refused e q = rw (refused_number o q, ne_eqb (length o) 136 (refused_length o q), and_false (eqb (length b) 136))

  pub both_joined : (x y : Tally) (r : Result Tally TallyRefusal) → tally_in b ≡ Ok x → tally_in o ≡ Ok y → numbers x.counts r ≡ joined_to x.counts y.counts → stored_in b (numbers [] r) ≡ joined_bytes b o
  unfolding joined_bytes
  both_joined x y r p q e = rw (eq-eqb (length b) 136 (held_long b p), eq-eqb (length o) 136 (held_long o q), same_stored b x.counts r, e, held_counts b p, held_counts o q)

pub ruleset byte_steps = (held_long, first_refused, second_refused, both_joined)

-- ---- the fresh tally

abbrev fresh : List ℕ
fresh = replicate 34 0

plus_fresh_right : (xs : List ℕ) → length xs ≡ 34 → plus xs fresh ≡ xs
plus_fresh_right xs e = ap (λ n. plus xs (replicate n 0)) (sym e) ∙ plus_fresh xs

plus_fresh_left : (xs : List ℕ) → length xs ≡ 34 → plus fresh xs ≡ xs
plus_fresh_left xs e = plus_swap fresh xs (sym e) ∙ plus_fresh_right xs e

pub fresh_right : (xs : List ℕ) → IsTally xs → joined_to xs fresh ≡ (0, xs)
fresh_right xs h = let e = plus_fresh_right xs h.0 in joined_0 xs fresh (ap all_within e ∙ h.1) ∙ ap (λ (l : List ℕ). (0, l)) e

pub fresh_left : (xs : List ℕ) → IsTally xs → joined_to fresh xs ≡ (0, xs)
fresh_left xs h = let e = plus_fresh_left xs h.0 in joined_0 fresh xs (ap all_within e ∙ h.1) ∙ ap (λ (l : List ℕ). (0, l)) e

-- ---- one list after the other

pub figures_after : (l m : List Read) → figures (l ++ m) ≡ plus (figures l) (figures m)
figures_after [] m = sym (ap (λ (x : List ℕ). plus x (figures m)) figures_none ∙ plus_fresh_left (figures m) (figures_length m))
figures_after (x ∷ l) m =
    figures_next x (l ++ m)
    ∙ ap (plus (counts_of x.0 x.1)) (figures_after l m)
    ∙ sym (plus_group (counts_of x.0 x.1) (figures l) (figures m))
    ∙ ap (λ (y : List ℕ). plus y (figures m)) (sym (figures_next x l))

pub lists_joined : (l m : List Read) → all_within (figures (l ++ m)) ≡ true → joined_to (figures l) (figures m) ≡ (0, figures (l ++ m))
lists_joined l m w = let e = figures_after l m in joined_0 (figures l) (figures m) (ap all_within (sym e) ∙ w) ∙ ap (λ (x : List ℕ). (0, x)) (sym e)

pub lists_refused : (l m : List Read) → all_within (figures (l ++ m)) ≡ false → joined_to (figures l) (figures m) ≡ (15, figures l)
lists_refused l m w = joined_15 (figures l) (figures m) (ap all_within (sym (figures_after l m)) ∙ w)

-- ---- trees

sum_all : List (List ℕ) → List ℕ
sum_all [] = fresh
sum_all (x ∷ l) = plus x (sum_all l)

sum_length : (l : List (List ℕ)) → AreTallies l → length (sum_all l) ≡ 34
unfolding sum_all
sum_length [] h = refl
sum_length (x ∷ l) h = plus_length x (sum_all l) (h.0.0 ∙ sym (sum_length l h.1)) ∙ h.0.0

first_part : (l m : List (List ℕ)) → AreTallies (l ++ m) → AreTallies l
first_part [] m h = tt
first_part (x ∷ l) m h = (h.0, first_part l m h.1)

second_part : (l m : List (List ℕ)) → AreTallies (l ++ m) → AreTallies m
second_part [] m h = h
second_part (x ∷ l) m h = second_part l m h.1

sum_parts : (l m : List (List ℕ)) → AreTallies (l ++ m) → sum_all (l ++ m) ≡ plus (sum_all l) (sum_all m)
unfolding sum_all
sum_parts [] m h = sym (plus_fresh_left (sum_all m) (sum_length m h))
sum_parts (x ∷ l) m h = ap (plus x) (sum_parts l m h.1) ∙ sym (plus_group x (sum_all l) (sum_all m))

-- the sum, if it is within the limit
abbrev given : List ℕ → Option (List ℕ)
given xs = if all_within xs then some xs else none

both_given : (xs ys : List ℕ) → length xs ≡ length ys → both (given xs) (given ys) ≡ given (plus xs ys)
both_given xs ys e = go (all_within xs) (all_within ys) refl refl
  where
    over_first : all_within xs ≡ false → none ≡ given (plus xs ys)
    over_first f = rw (refused_part xs ys e f)

    over_second : all_within ys ≡ false → none ≡ given (plus xs ys)
    over_second f = rw (ap all_within (plus_swap xs ys e) ∙ refused_part ys xs (sym e) f)

    sum : (t : Bool) → all_within (plus xs ys) ≡ t → unrefused (joined_to xs ys) ≡ (if t then some (plus xs ys) else none)
    sum true f = rw (joined_0 xs ys f)
    sum false f = rw (joined_15 xs ys f)

    go : (a b : Bool) → all_within xs ≡ a → all_within ys ≡ b → both (if a then some xs else none) (if b then some ys else none) ≡ given (plus xs ys)
    go true true f g = sum (all_within (plus xs ys)) refl
    go true false f g = over_second g
    go false true f g = over_first f
    go false false f g = over_first f

tree_is : (t : Tree) → AreTallies (tallies t) → joined_all t ≡ given (sum_all (tallies t))
unfolding joined_all tallies sum_all
tree_is (tally xs) h = rw (plus_fresh_right xs h.0.0, h.0.1)
tree_is (join s t) h =
    let a = first_part (tallies s) (tallies t) h in
    let b = second_part (tallies s) (tallies t) h in
    rw (tree_is s a, tree_is t b, sum_parts (tallies s) (tallies t) h) (both_given (sum_all (tallies s)) (sum_all (tallies t)) (sum_length (tallies s) a ∙ sym (sum_length (tallies t) b)))

sum_reordered : {l m : List (List ℕ)} → Reordered l m → AreTallies l → (sum_all l ≡ sum_all m) × AreTallies m
unfolding sum_all
sum_reordered same h = (refl, h)
sum_reordered (swapped {x = x} {y = y} {l = l}) h =
    let e : length x ≡ length y = h.0.0 ∙ sym h.1.0.0 in
    (sym (plus_group x y (sum_all l)) ∙ ap (λ (z : List ℕ). plus z (sum_all l)) (plus_swap x y e) ∙ plus_group y x (sum_all l), (h.1.0, (h.0, h.1.1)))
sum_reordered (after {x = x} r) h = let q = sum_reordered r h.1 in (ap (plus x) q.0, (h.0, q.1))
sum_reordered (through r s) h = let p = sum_reordered r h in let q = sum_reordered s p.1 in (p.0 ∙ q.0, q.1)

-- order and grouping never matter: one tree is refused exactly if the other is, and else both give the same counts
pub any_order : (s t : Tree) → AreTallies (tallies s) → Reordered (tallies s) (tallies t) → joined_all s ≡ joined_all t
any_order s t h r = let q = sum_reordered r h in tree_is s h ∙ ap given q.0 ∙ sym (tree_is t q.1)
