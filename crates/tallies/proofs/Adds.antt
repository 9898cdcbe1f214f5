-- Sums count by count.
use Prim.Native.Nat.{ℕ, zero, suc, ◌+◌, ◌≤◌, ◌<◌}
use native.Mathlib.Omega.{arith}
use mathlib.Core.List.{List, [], ◌∷◌, ◌++◌}
use mathlib.Core.Bool.{Bool, true, false, ◌&&◌, and-eq-true_iff}
use mathlib.Core.Path.{◌≡◌, refl, sym, ap, ◌∙◌}
use borrow.Author.Tests.{le-leb, lt-leb, leb-true}
use lib.Dec.{leb}
use lib.ListN.{length, get_or, take, set, replicate, length-append, length-replicate}
use lib.Seq.{get_or-append-add}
use mir.Syntax.{w32}
use mir.Val.{Val}
use denote.Array.{Array, each}
use denote.Laws.{Is}
use denote.Plain.{UInt}
use denote.Shadow.{shadow}
use Rattle.tallies.specs.Sums.{plus, most, all_within}

pub plus_length : (xs ys : List ℕ) → length xs ≡ length ys → length (plus xs ys) ≡ length xs
unfolding plus
plus_length [] ys e = refl
plus_length (x ∷ xs) [] e = absurd (omega arith)
plus_length (x ∷ xs) (y ∷ ys) e = let r : length (plus xs ys) ≡ length xs = plus_length xs ys (omega arith) in omega arith

pub plus_at : (xs ys : List ℕ) (i : ℕ) → i < length xs → i < length ys → get_or (plus xs ys) i 0 ≡ get_or xs i 0 + get_or ys i 0
unfolding plus
plus_at [] ys i h k = absurd (omega arith)
plus_at (x ∷ xs) [] i h k = absurd (omega arith)
plus_at (x ∷ xs) (y ∷ ys) zero h k = refl
plus_at (x ∷ xs) (y ∷ ys) (suc i) h k = plus_at xs ys i (omega arith) (omega arith)

pub within_more : (l : List ℕ) (i : ℕ) → all_within (take i l) ≡ true → get_or l i 0 ≤ most → all_within (take (suc i) l) ≡ true
unfolding all_within
within_more [] i e h = refl
within_more (x ∷ l) zero e h = rw (le-leb x most h)
within_more (x ∷ l) (suc i) e h = let b = (and-eq-true_iff (leb x most) (all_within (take i l))).0 e in let r : all_within (take (suc i) l) ≡ true = within_more l i b.1 h in rw (b.0, r)

pub within_not : (l : List ℕ) (i : ℕ) → i < length l → most < get_or l i 0 → all_within l ≡ false
unfolding all_within
within_not [] i k h = absurd (omega arith)
within_not (x ∷ l) zero k h = rw (lt-leb x most h)
within_not (x ∷ l) (suc i) k h = let r : all_within l ≡ false = within_not l i (omega arith) h in rw r (go (leb x most))
  where
    go : (t : Bool) → (t && false) ≡ false
    go true = refl
    go false = refl

-- ---- joining: order and grouping do not matter, the fresh tally changes nothing, and a refused join refuses the whole

pub plus_swap : (xs ys : List ℕ) → length xs ≡ length ys → plus xs ys ≡ plus ys xs
unfolding plus
plus_swap [] [] e = refl
plus_swap [] (y ∷ ys) e = absurd (omega arith)
plus_swap (x ∷ xs) [] e = absurd (omega arith)
plus_swap (x ∷ xs) (y ∷ ys) e = let h : x + y ≡ y + x = omega arith in let r : plus xs ys ≡ plus ys xs = plus_swap xs ys (omega arith) in rw (h, r)

pub plus_group : (xs ys zs : List ℕ) → plus (plus xs ys) zs ≡ plus xs (plus ys zs)
unfolding plus
plus_group [] ys zs = refl
plus_group (x ∷ xs) [] zs = refl
plus_group (x ∷ xs) (y ∷ ys) [] = refl
plus_group (x ∷ xs) (y ∷ ys) (z ∷ zs) = let h : x + y + z ≡ x + (y + z) = omega arith in let r : plus (plus xs ys) zs ≡ plus xs (plus ys zs) = plus_group xs ys zs in rw (h, r)

pub plus_fresh : (xs : List ℕ) → plus xs (replicate (length xs) 0) ≡ xs
unfolding plus
plus_fresh [] = refl
plus_fresh (x ∷ xs) = let h : x + 0 ≡ x = omega arith in let r : plus xs (replicate (length xs) 0) ≡ xs = plus_fresh xs in rw (h, r)

pub within_part : (xs ys : List ℕ) → length xs ≡ length ys → all_within (plus xs ys) ≡ true → all_within xs ≡ true
unfolding plus all_within
within_part [] ys e h = refl
within_part (x ∷ xs) [] e h = absurd (omega arith)
within_part (x ∷ xs) (y ∷ ys) e h =
    let b = (and-eq-true_iff (leb (x + y) most) (all_within (plus xs ys))).0 h in
    let r : all_within xs ≡ true = within_part xs ys (omega arith) b.1 in
    rw (le-leb x most (omega (arith, leb-true (x + y) most b.0)), r)

-- ---- counts that are held in 32 bits

each_within : (xs : List ℕ) (us : List Val) → shadow (each ℕ (UInt w32).own_val xs us) → all_within xs ≡ true
unfolding all_within
each_within [] [] s = refl
each_within [] (u ∷ us) s = absurd s
each_within (x ∷ xs) [] s = absurd s
each_within (x ∷ xs) (u ∷ us) s = rw (le-leb x most (omega (arith, s.0.1)), each_within xs us s.1)

pub held_within : {n : ℕ} (xs : List ℕ) (vs : List Val) → Is (Array (UInt w32) n) xs vs → all_within xs ≡ true
held_within xs vs p = each_within xs p.0 p.1.1

pub within_take : (k : ℕ) (l : List ℕ) → all_within l ≡ true → all_within (take k l) ≡ true
unfolding all_within
within_take zero l e = refl
within_take (suc k) [] e = refl
within_take (suc k) (x ∷ l) e = let b = (and-eq-true_iff (leb x most) (all_within l)).0 e in rw (b.0, within_take k l b.1)

-- ---- counts raised from a place on

module _ (at : ℕ) (more : List ℕ) where
  abbrev from_place : List ℕ
  from_place = replicate at 0 ++ more

  pub place_length : length (replicate at 0 ++ more) ≡ at + length more
  place_length = length-append (replicate at 0) more ∙ ap (λ n. n + length more) (length-replicate at 0)

  pub place_at : (i : ℕ) → get_or (replicate at 0 ++ more) (at + i) 0 ≡ get_or more i 0
  place_at i = ap (λ n. get_or (replicate at 0 ++ more) (n + i) 0) (sym (length-replicate at 0)) ∙ get_or-append-add (replicate at 0) more i 0

pub place_take : (k : ℕ) (t ys : List ℕ) → k ≤ length t → take k (plus t (replicate k 0 ++ ys)) ≡ take k t
unfolding plus
place_take zero t ys h = refl
place_take (suc k) [] ys h = absurd (omega arith)
place_take (suc k) (x ∷ t) ys h = let e : x + 0 ≡ x = omega arith in let r : take k (plus t (replicate k 0 ++ ys)) ≡ take k t = place_take k t ys (omega arith) in rw (e, r)

-- ---- one count raised

pub plus_set : (xs ys : List ℕ) (n v : ℕ) → plus xs (set ys n v) ≡ set (plus xs ys) n (get_or xs n 0 + v)
unfolding plus
plus_set [] ys n v = refl
plus_set (x ∷ xs) [] n v = refl
plus_set (x ∷ xs) (y ∷ ys) zero v = refl
plus_set (x ∷ xs) (y ∷ ys) (suc n) v = ap (λ (l : List ℕ). (x + y) ∷ l) (plus_set xs ys n v)

pub one_plus : (t : List ℕ) (k n v : ℕ) → length t ≡ k → plus t (set (replicate k 0) n v) ≡ set t n (get_or t n 0 + v)
one_plus t k n v e = plus_set t (replicate k 0) n v ∙ ap (λ (l : List ℕ). set l n (get_or t n 0 + v)) (ap (λ j. plus t (replicate j 0)) (sym e) ∙ plus_fresh t)

pub set_join : (a b : List ℕ) (n v : ℕ) → n < length a → set (a ++ b) n v ≡ set a n v ++ b
set_join [] b n v h = absurd (omega arith)
set_join (x ∷ a) b zero v h = refl
set_join (x ∷ a) b (suc n) v h = ap (λ (l : List ℕ). x ∷ l) (set_join a b n v (omega arith))

pub within_set : (t : List ℕ) (n v : ℕ) → all_within t ≡ true → v ≤ most → all_within (set t n v) ≡ true
unfolding all_within
within_set [] n v e h = refl
within_set (x ∷ t) zero v e h = let b = (and-eq-true_iff (leb x most) (all_within t)).0 e in rw (le-leb v most h, b.1)
within_set (x ∷ t) (suc n) v e h = let b = (and-eq-true_iff (leb x most) (all_within t)).0 e in let r : all_within (set t n v) ≡ true = within_set t n v b.1 h in rw (b.0, r)

-- ---- sums one after the other

pub plus_join : (a b c d : List ℕ) → length a ≡ length c → plus (a ++ b) (c ++ d) ≡ plus a c ++ plus b d
unfolding plus
plus_join [] b [] d e = refl
plus_join [] b (y ∷ c) d e = absurd (omega arith)
plus_join (x ∷ a) b [] d e = absurd (omega arith)
plus_join (x ∷ a) b (y ∷ c) d e = ap (λ (l : List ℕ). (x + y) ∷ l) (plus_join a b c d (omega arith))
