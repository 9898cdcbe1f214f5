-- A run of answers: every count is what the definition over the list says.
use Rattle.std.specs.Prelude.{if◌then◌else◌}
use Prim.Native.Nat.{ℕ, zero, suc, ◌+◌, ◌-◌, ◌≤◌, ◌<◌}
use native.Mathlib.Nat.{add-zero, zero-add, sub-zero}
use native.Mathlib.Omega.{arith}
use mathlib.Core.List.{List, [], ◌∷◌, ◌++◌, map}
use mathlib.Core.Bool.{Bool, true, false}
use mathlib.Core.Path.{◌≡◌, refl, sym, ap, ◌∙◌}
use borrow.Author.Tests.{ne_eqb, eqb-true, eqb-false}
use lib.Dec.{eqb}
use lib.IntN.{ℤ}
use lib.ListN.{length, set, replicate, length-set}
use Rattle.lent_slots.specs.Slots.{records_of}
use Rattle.tallies.specs.Sums.{plus, all_within}
use Rattle.tallies.specs.Counts.{one, marks_of, record_counts, total, own, counts_of}
use Rattle.tallies.specs.Answers.{answer_fits, taken_in}
use Rattle.tallies.specs.Figures.{Read, sum_of, answers_with, read, warnings, items, marks, up_from, figures, run, fitting, taken, refused, AllFit}
use Rattle.tallies.proofs.Adds.{plus_length, plus_group, plus_fresh, plus_join, within_part}
use Rattle.tallies.proofs.Judged.{fitting_up, counts_long, taken_16, taken_15, taken_0}

-- ---- answers by number

-- 1 for a number
abbrev is : ℕ → ℕ → ℕ
is n k = if eqb n k then 1 else 0

is_other : (n k : ℕ) → (n ≡ k → ⊥) → is n k ≡ 0
is_other n k h = rw (ne_eqb n k h)

none_of : (m k n : ℕ) → n < k → map (is n) (up_from m k) ≡ replicate m 0
unfolding up_from
none_of zero k n h = refl
none_of (suc m) k n h = let e : is n k ≡ 0 = is_other n k (λ q. omega arith) in let r : map (is n) (up_from m (suc k)) ≡ replicate m 0 = none_of m (suc k) n (omega arith) in rw (e, r)

next : (n k : ℕ) → k ≤ n → (n ≡ k → ⊥) → suc k ≤ n
next n k h q = omega (arith, q)

one_more_of : (m k n : ℕ) → k ≤ n → (t : Bool) → eqb n k ≡ t → (suc k ≤ n → map (is n) (up_from m (suc k)) ≡ set (replicate m 0) (n - suc k) 1) →
    (if t then 1 else 0) ∷ map (is n) (up_from m (suc k)) ≡ set (0 ∷ replicate m 0) (n - k) 1
one_more_of m k n h true e f =
    let q : n ≡ k = eqb-true n k e in
    let z : n - k ≡ 0 = omega arith in
    let r : map (is n) (up_from m (suc k)) ≡ replicate m 0 = none_of m (suc k) n (omega arith) in
    rw (z, r)
one_more_of m k n h false e f =
    let g : suc k ≤ n = next n k h (eqb-false n k e) in
    let z : n - k ≡ suc (n - suc k) = omega arith in
    let r : map (is n) (up_from m (suc k)) ≡ set (replicate m 0) (n - suc k) 1 = f g in
    rw (z, r)

one_of : (m k n : ℕ) → k ≤ n → map (is n) (up_from m k) ≡ set (replicate m 0) (n - k) 1
unfolding up_from
one_of zero k n h = refl
one_of (suc m) k n h = one_more_of m k n h (eqb n k) refl (λ g. one_of m (suc k) n g)

map_plus : (f g : ℕ → ℕ) (l : List ℕ) → map (λ n. f n + g n) l ≡ plus (map f l) (map g l)
unfolding plus
map_plus f g [] = refl
map_plus f g (x ∷ l) = ap (λ (r : List ℕ). (f x + g x) ∷ r) (map_plus f g l)

-- ---- items and marks

added : (w : List ℤ) (a b c d e f g m : ℕ) → plus (record_counts w) (0 ∷ 0 ∷ a ∷ b ∷ c ∷ d ∷ e ∷ f ∷ g ∷ m ∷ [])
    ≡ 0 ∷ 0 ∷ (one 2 w + a) ∷ (one 3 w + b) ∷ (one 4 w + c) ∷ (one 5 w + d) ∷ (one 6 w + e) ∷ (one 7 w + f) ∷ (one 8 w + g) ∷ (marks_of w + m) ∷ []
unfolding plus record_counts
added w a b c d e f g m = refl

total_is : (ws : List (List ℤ)) →
    total ws ≡ 0 ∷ 0 ∷ sum_of (one 2) ws ∷ sum_of (one 3) ws ∷ sum_of (one 4) ws ∷ sum_of (one 5) ws ∷ sum_of (one 6) ws ∷ sum_of (one 7) ws ∷ sum_of (one 8) ws ∷ sum_of marks_of ws ∷ []
unfolding total sum_of
total_is [] = refl
total_is (w ∷ ws) =
    ap (plus (record_counts w)) (total_is ws)
    ∙ added w (sum_of (one 2) ws) (sum_of (one 3) ws) (sum_of (one 4) ws) (sum_of (one 5) ws) (sum_of (one 6) ws) (sum_of (one 7) ws) (sum_of (one 8) ws) (sum_of marks_of ws)

ten_counts : (v a b c d e f g m r w i j k l n o p q : ℕ) →
    plus (plus (own v) (0 ∷ 0 ∷ a ∷ b ∷ c ∷ d ∷ e ∷ f ∷ g ∷ m ∷ [])) (r ∷ w ∷ i ∷ j ∷ k ∷ l ∷ n ∷ o ∷ p ∷ q ∷ [])
    ≡ (1 + r) ∷ (v + w) ∷ (a + i) ∷ (b + j) ∷ (c + k) ∷ (d + l) ∷ (e + n) ∷ (f + o) ∷ (g + p) ∷ (m + q) ∷ []
unfolding plus
ten_counts v a b c d e f g m r w i j k l n o p q = simp (add-zero, zero-add)

-- ---- one answer more

abbrev by_number : List Read → List ℕ
by_number l = map (λ n. answers_with n l) (up_from 24 0)

abbrev last_ten : List Read → List ℕ
last_ten l = read l ∷ warnings l ∷ items 2 l ∷ items 3 l ∷ items 4 l ∷ items 5 l ∷ items 6 l ∷ items 7 l ∷ items 8 l ∷ marks l ∷ []

module _ (x : Read) (l : List Read) where
  numbers_next : by_number (x ∷ l) ≡ plus (set (replicate 24 0) x.0.number 1) (by_number l)
  unfolding sum_of
  numbers_next = map_plus (is x.0.number) (λ n. answers_with n l) (up_from 24 0) ∙ ap (λ (y : List ℕ). plus y (by_number l)) (one_of 24 0 x.0.number (omega arith) ∙ ap (λ k. set (replicate 24 0) k 1) (sub-zero x.0.number))

  last_next : last_ten (x ∷ l) ≡ plus (plus (own x.0.warnings) (total (records_of x.1))) (last_ten l)
  unfolding sum_of
  last_next =
      let ws = records_of x.1 in
      sym (
      ap (λ (y : List ℕ). plus (plus (own x.0.warnings) y) (last_ten l)) (total_is ws)
      ∙ ten_counts x.0.warnings (sum_of (one 2) ws) (sum_of (one 3) ws) (sum_of (one 4) ws) (sum_of (one 5) ws) (sum_of (one 6) ws) (sum_of (one 7) ws) (sum_of (one 8) ws) (sum_of marks_of ws)
      (read l) (warnings l) (items 2 l) (items 3 l) (items 4 l) (items 5 l) (items 6 l) (items 7 l) (items 8 l) (marks l)
      )

  pub figures_next : figures (x ∷ l) ≡ plus (counts_of x.0 x.1) (figures l)
  unfolding figures counts_of up_from
  figures_next =
      let a = set {A = ℕ} (replicate 24 0) x.0.number 1 in
      let b = plus (own x.0.warnings) (total (records_of x.1)) in
      let e : length a ≡ length (by_number l) = length-set {A = ℕ} (replicate 24 0) x.0.number 1 in
      ap (λ (y : List ℕ). y ++ last_ten (x ∷ l)) numbers_next ∙ ap (λ (y : List ℕ). plus a (by_number l) ++ y) last_next ∙ sym (plus_join a b (by_number l) (last_ten l) e)

pub figures_none : figures [] ≡ replicate 34 0
unfolding figures sum_of up_from
figures_none = refl

pub figures_length : (l : List Read) → length (figures l) ≡ 34
unfolding figures up_from
figures_length l = refl

pub counts_length : (x : Read) → length (counts_of x.0 x.1) ≡ 34
counts_length x = counts_long x.0 x.1

-- ---- a run

-- how a tally goes on: it is left, or it is raised by the answer's counts
data Goes (xs : List ℕ) (x : Read) : Type 0 where
  stays : (n : ℕ) → taken_in xs x.0 x.1 ≡ (suc n, xs) → Goes xs x
  rises : answer_fits x.0 x.1 ≡ true → taken_in xs x.0 x.1 ≡ (0, plus xs (counts_of x.0 x.1)) → Goes xs x

goes : (xs : List ℕ) (x : Read) → Goes xs x
goes xs x = by_fit (answer_fits x.0 x.1) refl
  where
    by_limit : answer_fits x.0 x.1 ≡ true → (t : Bool) → all_within (plus xs (counts_of x.0 x.1)) ≡ t → Goes xs x
    by_limit e true f = rises e (taken_0 xs x.0 x.1 e f)
    by_limit e false f = stays 14 (taken_15 xs x.0 x.1 e f)

    by_fit : (t : Bool) → answer_fits x.0 x.1 ≡ t → Goes xs x
    by_fit true e = by_limit e (all_within (plus xs (counts_of x.0 x.1))) refl
    by_fit false e = stays 15 (taken_16 xs x.0 x.1 e)

sum_length : (xs : List ℕ) (x : Read) → length xs ≡ 34 → length (plus xs (counts_of x.0 x.1)) ≡ 34
sum_length xs x l = plus_length xs (counts_of x.0 x.1) (l ∙ sym (counts_length x)) ∙ l

-- an answer more, with what the list after it gives
step : (xs : List ℕ) (x : Read) (l : List Read) → plus (plus xs (counts_of x.0 x.1)) (figures l) ≡ plus xs (figures (x ∷ l))
step xs x l = plus_group xs (counts_of x.0 x.1) (figures l) ∙ ap (plus xs) (sym (figures_next x l))

nothing : (xs : List ℕ) → length xs ≡ 34 → xs ≡ plus xs (figures [])
nothing xs e = sym (ap (plus xs) figures_none ∙ ap (λ n. plus xs (replicate n 0)) (sym e) ∙ plus_fresh xs)

-- after any run each count is that of the answers that were taken in
pub run_taken : (xs : List ℕ) (l : List Read) → length xs ≡ 34 → run xs l ≡ plus xs (figures (taken xs l))
unfolding run taken
run_taken xs [] e = nothing xs e
run_taken xs (x ∷ l) e = go (goes xs x) (run_taken xs l e) (run_taken (plus xs (counts_of x.0 x.1)) l (sum_length xs x e))
  where
    more : List ℕ
    more = plus xs (counts_of x.0 x.1)

    go : Goes xs x → run xs l ≡ plus xs (figures (taken xs l)) → run more l ≡ plus more (figures (taken more l)) →
        run (taken_in xs x.0 x.1).1 l
        ≡ plus xs (figures (if eqb (taken_in xs x.0 x.1).0 0 then x ∷ taken (taken_in xs x.0 x.1).1 l else taken (taken_in xs x.0 x.1).1 l))
    go (stays n q) f g = rw (q, ne_eqb (suc n) 0 (λ z. omega arith)) f
    go (rises a q) f g = rw q (g ∙ step xs x (taken more l))

-- if no count passes, those are all that fit
pub run_fitting : (xs : List ℕ) (l : List Read) → length xs ≡ 34 → all_within (plus xs (figures (fitting l))) ≡ true → run xs l ≡ plus xs (figures (fitting l))
unfolding run fitting
run_fitting xs [] e w = nothing xs e
run_fitting xs (x ∷ l) e w = go (answer_fits x.0 x.1) refl w (run_fitting xs l e) (run_fitting (plus xs (counts_of x.0 x.1)) l (sum_length xs x e))
  where
    more : List ℕ
    more = plus xs (counts_of x.0 x.1)

    go : (t : Bool) → answer_fits x.0 x.1 ≡ t → all_within (plus xs (figures (if t then x ∷ fitting l else fitting l))) ≡ true →
        (all_within (plus xs (figures (fitting l))) ≡ true → run xs l ≡ plus xs (figures (fitting l))) →
        (all_within (plus more (figures (fitting l))) ≡ true → run more l ≡ plus more (figures (fitting l))) →
        run (taken_in xs x.0 x.1).1 l ≡ plus xs (figures (if t then x ∷ fitting l else fitting l))
    go true a v f g =
        let u : all_within (plus more (figures (fitting l))) ≡ true = ap all_within (step xs x (fitting l)) ∙ v in
        let within : all_within more ≡ true = within_part more (figures (fitting l)) (sum_length xs x e ∙ sym (figures_length (fitting l))) u in
        rw (taken_0 xs x.0 x.1 a within) (g u ∙ step xs x (fitting l))
    go false a v f g = rw (taken_16 xs x.0 x.1 a) (f v)

-- the answers that were taken in fit
pub taken_fit : (xs : List ℕ) (l : List Read) → AllFit (taken xs l)
unfolding taken
taken_fit xs [] = tt
taken_fit xs (x ∷ l) = go (goes xs x) (taken_fit xs l) (taken_fit (plus xs (counts_of x.0 x.1)) l)
  where
    more : List ℕ
    more = plus xs (counts_of x.0 x.1)

    go : Goes xs x → AllFit (taken xs l) → AllFit (taken more l) → AllFit (if eqb (taken_in xs x.0 x.1).0 0 then x ∷ taken (taken_in xs x.0 x.1).1 l else taken (taken_in xs x.0 x.1).1 l)
    go (stays n q) f g = rw (q, ne_eqb (suc n) 0 (λ z. omega arith)) f
    go (rises a q) f g = rw q (a, g)

-- ---- accepted and refused

sum_none : (m k n : ℕ) → n < k → sum_of (is n) (up_from m k) ≡ 0
unfolding up_from sum_of
sum_none zero k n h = refl
sum_none (suc m) k n h = rw (is_other n k (λ q. omega arith), sum_none m (suc k) n (omega arith))

-- among m numbers from k on, one is n
sum_one : (m k n : ℕ) → k ≤ n → n < k + m → sum_of (is n) (up_from m k) ≡ 1
unfolding up_from sum_of
sum_one zero k n h g = absurd (omega arith)
sum_one (suc m) k n h g = go (eqb n k) refl (sum_one m (suc k) n)
  where
    go : (t : Bool) → eqb n k ≡ t → (suc k ≤ n → n < suc k + m → sum_of (is n) (up_from m (suc k)) ≡ 1) → (if t then 1 else 0) + sum_of (is n) (up_from m (suc k)) ≡ 1
    go true e f = let q : n ≡ k = eqb-true n k e in rw (sum_none m (suc k) n (omega arith))
    go false e f = rw (f (next n k h (eqb-false n k e)) (omega arith))

sum_plus : (f g : ℕ → ℕ) (l : List ℕ) → sum_of (λ n. f n + g n) l ≡ sum_of f l + sum_of g l
unfolding sum_of
sum_plus f g [] = refl
sum_plus f g (x ∷ l) = omega (arith, sum_plus f g l)

each_once : (n : ℕ) → n ≤ 23 → is n 0 + sum_of (is n) (up_from 23 1) ≡ 1
unfolding sum_of up_from
each_once n h = sum_one 24 0 n (omega arith) (omega arith)

no_answers : 0 + refused [] ≡ 0
unfolding sum_of up_from
no_answers = refl

pub accepted_refused : (l : List Read) → AllFit l → answers_with 0 l + refused l ≡ read l
unfolding sum_of
accepted_refused [] f = no_answers
accepted_refused (x ∷ l) f =
    let n = x.0.number in
    let up : n ≤ 23 = fitting_up x.0 x.1 f.0 in
    let one_number : is n 0 + sum_of (is n) (up_from 23 1) ≡ 1 = each_once n up in
    let both-parts : refused (x ∷ l) ≡ sum_of (is n) (up_from 23 1) + refused l = sum_plus (is n) (λ k. answers_with k l) (up_from 23 1) in
    let r : answers_with 0 l + refused l ≡ read l = accepted_refused l f.1 in
    omega arith
