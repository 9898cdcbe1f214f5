-- What a reader finds depends on nothing before its place, and on nothing from a `;` outside quotes on: a lemma for each way to put readers together.
use Rattle.std.specs.Prelude.{if◌then◌else◌}
use Prim.Native.Nat.compare
use Prim.Native.Nat.{ℕ, zero, suc, ◌+◌, ◌≤◌, ◌<◌, max, compare}
use mathlib.Core.List.{List, [], ◌∷◌, ◌++◌, append-nil}
use mathlib.Core.Bool.{Bool, true, false, not, ◌&&◌, true≢false, and-false, and-eq-true_iff}
use mathlib.Core.Path.{◌≡◌, refl, sym, ap, ◌∙◌}
use native.Mathlib.Omega.{arith}
use native.Mathlib.Decide.{dec_lt}
use native.Mathlib.Nat.{add-suc, suc-add, zero-add}
use lib.Dec.{ltb, eqb}
use lib.ListN.{length, get_or, drop, get_or-append, drop_of_length-le, length-append}
use lib.Seq.{drop-cons, get_or-append-add, get_or_at}
use borrow.Author.Tests.{ne_eqb, eqb-true, lt-ltb, le-ltb, ltb-true}
use Rattle.names.specs.Quotes.{flips, inside_of}
use Rattle.names.specs.Read.{Read, got, none, refused, Reader, follow, branch, nothing, pure, refuse, here, when, only, one, ahead}
use Rattle.names.specs.Texts.{byte}
use Rattle.names.specs.Refusals.{greatest, point_in_time}
use Rattle.names.specs.declared.Manner.{Manner}
use Rattle.names.specs.declared.Manner.TheVariants.{First, Second, House}

-- ---- the text s stands after u and before v

-- what v may be: nothing (Ended), or nothing or what begins with a `;` (Stop)
pub data Tail : Type 0 where
  Ended Stop : Tail

pub data Follows : Tail → List ℕ → Type 0 where
  stop_end : {Q : Tail} → Follows Q []
  stop_at : (t : List ℕ) → Follows Stop (59 ∷ t)

-- a place of s from which on the quotes pair (a is false), or do not (a is true: the place stands inside)
pub record Side (a : Bool) (s : List ℕ) (i : ℕ) : Type 0 where
  pub fits : i ≤ length s
  pub side : inside_of (drop i s) ≡ a

-- where something stands after s, a place of s on side a
abbrev pub At : List ℕ → Bool → List ℕ → ℕ → Type 0
At [] a s i = Unit {0}
At (x ∷ t) a s i = Side a s i

-- j is k bytes past i at least, and past the end of s only as far as i is
pub record Past (k : ℕ) (s : List ℕ) (i j : ℕ) : Type 0 where
  pub moves : i + k ≤ j
  pub stays : j ≤ max i (length s)

-- in edition 2 no point in time is refused
abbrev pub Allowed : Manner → ℕ → Type 0
Allowed First k = Unit {0}
Allowed Second k = k ≡ point_in_time → ⊥
Allowed House k = Unit {0}

-- a number of the table
abbrev pub Listed : ℕ → Type 0
Listed k = (0 < k) × (k ≤ greatest)

-- the numbers that a reader refuses by
abbrev pub Number : Manner → ℕ → Type 0
Number e k = (0 < k) × ((k ≤ greatest) × Allowed e k)

-- those of edition 2 are numbers of every manner
number_any : (e : Manner) {k : ℕ} → Number Second k → Number e k
number_any First h = (h.0, (h.1.0, tt))
number_any Second h = h
number_any House h = (h.0, (h.1.0, tt))

-- where a reading found something, the place after it is so; where it is refused, its number is one of the table, at any place
abbrev pub Ends : {A : Type 0} → (ℕ → Type 0) → Read A → Type 0
Ends P (got a j) = P j
Ends P none = Unit {0}
Ends P (refused k p) = Listed k

-- a refusal has a number of the manner e and is at a place up to n
abbrev pub Near : {A : Type 0} → Manner → ℕ → Read A → Type 0
Near e n (got a j) = Unit {0}
Near e n none = Unit {0}
Near e n (refused k p) = Number e k × (p ≤ n)

-- a reading in a text that stands n bytes later: places move, and sh says how the value does
abbrev pub moved : {A : Type 0} → (ℕ → A → A) → ℕ → Read A → Read A
moved sh n (got a j) = got (sh n a) (n + j)
moved sh n none = none
moved sh n (refused k p) = refused k (n + p)

-- values that hold no place stay
abbrev pub keep : {A : Type 0} → ℕ → A → A
keep n a = a

-- m, read at a place on side a, takes k bytes at least and ends on side c of its text; after u and before a v as Q says, m' reads the same, moved.
-- Its refusals have the numbers of the manner e, and where the place b, at which m may refuse, is a place of its text, so is each at which it refuses
pub record LocalFrom {A : Type 0} (e : Manner) (b : ℕ) (Q : Tail) (sh : ℕ → A → A) (u : List ℕ) (a c : Bool) (k : ℕ) (m' m : Reader A) : Type 0 where
  pub ends : (s v : List ℕ) (i : ℕ) → Follows Q v → At v a s i → Ends (λ j. Past k s i j × At v c s j) (m s i)
  pub same : (s v : List ℕ) (i : ℕ) → Follows Q v → At v a s i → m' (u ++ (s ++ v)) (length u + i) ≡ moved sh (length u) (m s i)
  pub near : (s : List ℕ) (i : ℕ) → b ≤ max i (length s) → Near e (max i (length s)) (m s i)

-- the same of a reader that knows no place before its own
abbrev pub LocalIn : {A : Type 0} → Manner → Tail → (ℕ → A → A) → List ℕ → Bool → Bool → ℕ → Reader A → Reader A → Type 0
LocalIn e Q sh u a c k m' m = LocalFrom e 0 Q sh u a c k m' m

-- and of one that is read alike in every manner
abbrev pub Local : {A : Type 0} → Tail → (ℕ → A → A) → List ℕ → Bool → Bool → ℕ → Reader A → Reader A → Type 0
Local Q sh u a c k m' m = LocalIn Second Q sh u a c k m' m

-- of the place after, less is said
pub ends_map : {A : Type 0} {P P₂ : ℕ → Type 0} → ((j : ℕ) → P j → P₂ j) → (x : Read A) → Ends P x → Ends P₂ x
ends_map h (got a j) p = h j p
ends_map h none p = tt
ends_map h (refused k q) p = p

module _ {A : Type 0} {e : Manner} {Q : Tail} {sh : ℕ → A → A} {a c : Bool} {k : ℕ} {m' m : Reader A} where
  -- what takes a byte at least ends after its place and in its text, at any place of any text
  pub takes : {u : List ℕ} → LocalIn e Q sh u a c (suc k) m' m → (s : List ℕ) (i : ℕ) → Ends (λ j. (i < j) × (j ≤ length s)) (m s i)
  takes M s i = ends_map (λ j p. omega arith) (m s i) (M.ends s [] i stop_end tt)

  -- the same where a value was found, and where k bytes are taken at least
  pub past_one : LocalIn e Q sh [] a c (suc k) m' m → {s : List ℕ} {i : ℕ} {x : A} {j : ℕ} → m s i ≡ got x j → (i < j) × (j ≤ length s)
  past_one M {s} {i} q = rw q at (takes M s i)

  pub past : LocalIn e Q sh [] a c k m' m → {s : List ℕ} {i : ℕ} {x : A} {j : ℕ} → m s i ≡ got x j → Past k s i j
  past M {s} {i} q = (rw q at (M.ends s [] i stop_end tt)).0

-- fewer texts may stand after
pub narrow : {A : Type 0} {e : Manner} {Q : Tail} {sh : ℕ → A → A} {u : List ℕ} {a c : Bool} {k : ℕ} {m' m : Reader A} → LocalIn e Stop sh u a c k m' m → LocalIn e Q sh u a c k m' m
narrow M = record { ends = λ s v i z w. M.ends s v i (stops z) w; same = λ s v i z w. M.same s v i (stops z) w; near = M.near }
  where
    stops : {Q : Tail} {v : List ℕ} → Follows Q v → Follows Stop v
    stops stop_end = stop_end
    stops (stop_at t) = stop_at t

-- a refusal up to a place is up to a later one, and with a number of edition 2 one with a number of any manner
pub near_up : {A : Type 0} (e : Manner) {n l : ℕ} (x : Read A) → n ≤ l → Near e n x → Near e l x
near_up e (got a j) h w = tt
near_up e none h w = tt
near_up e (refused k p) h w = (w.0, omega (arith, w.1))

near_any : {A : Type 0} (e : Manner) (n : ℕ) (x : Read A) → Near Second n x → Near e n x
near_any e n (got a j) w = tt
near_any e n none w = tt
near_any e n (refused k p) w = (number_any e w.0, w.1)

-- what is read alike in every manner, in one of them
pub in_any : {A : Type 0} {e : Manner} {b : ℕ} {Q : Tail} {sh : ℕ → A → A} {u : List ℕ} {a c : Bool} {k : ℕ} {m' m : Reader A} → LocalFrom Second b Q sh u a c k m' m → LocalFrom e b Q sh u a c k m' m
in_any {e = e} {m = m} M = record { ends = M.ends; same = M.same; near = λ s i h. near_any e _ (m s i) (M.near s i h) }

module _ {A : Type 0} {e : Manner} {b : ℕ} {Q : Tail} {sh : ℕ → A → A} {u : List ℕ} {a c : Bool} {k : ℕ} {m' m : Reader A} (M : LocalFrom e b Q sh u a c k m' m) where
  -- it takes fewer bytes at least
  pub loose : {l : ℕ} → l ≤ k → LocalFrom e b Q sh u a c l m' m
  loose h = record { ends = λ s v i z w. ends_map (λ j p. (omega (arith, p.0), p.1)) (m s i) (M.ends s v i z w); same = M.same; near = M.near }

  -- it takes something or nothing
  pub free : LocalFrom e b Q sh u a c 0 m' m
  free = loose (omega arith)

  -- values move in another way that comes to the same
  pub by : {sh₂ : ℕ → A → A} → ((x : A) → sh (length u) x ≡ sh₂ (length u) x) → LocalFrom e b Q sh₂ u a c k m' m
  by {sh₂} h = record { ends = M.ends; same = λ s v i z w. M.same s v i z w ∙ go (m s i); near = M.near }
    where
      go : (x : Read A) → moved sh (length u) x ≡ moved sh₂ (length u) x
      go (got x j) = rw (h x)
      go none = refl
      go (refused y p) = refl

module _ {e : Manner} {Q : Tail} {u : List ℕ} where
  -- no shape
  pub nothing_local : {A : Type 0} {b : ℕ} {sh : ℕ → A → A} {a c : Bool} {k : ℕ} → LocalFrom e b Q sh u a c k nothing nothing
  nothing_local = record { ends = λ s v i z w. tt; same = λ s v i z w. refl; near = λ s i h. tt }

  -- a value
  pub pure_local : {A : Type 0} {b : ℕ} {sh : ℕ → A → A} {a : Bool} (x : A) → LocalFrom e b Q sh u a a 0 (pure (sh (length u) x)) (pure x)
  pure_local x = record { ends = λ s v i z w. (omega arith, w); same = λ s v i z w. refl; near = λ s i h. tt }

  -- a refusal
  pub refuse_local : {A : Type 0} {sh : ℕ → A → A} {a c : Bool} {l : ℕ} (k p : ℕ) → Number e k → LocalFrom e p Q sh u a c l (refuse k (length u + p)) (refuse k p)
  refuse_local k p h = record { ends = λ s v i z w. (h.0, h.1.0); same = λ s v i z w. refl; near = λ s i l. (h, l) }

  -- the place
  pub here_local : {a : Bool} → LocalIn e Q (λ n p. n + p) u a a 0 here here
  here_local = record { ends = λ s v i z w. (omega arith, w); same = λ s v i z w. refl; near = λ s i h. tt }

-- where m finds its shape, what follows; where it finds none, n: for a value that holds a place
module _ {A B : Type 0} {e : Manner} {p : ℕ} {Q : Tail} {sh : ℕ → A → A} {sh₂ : ℕ → B → B} {u : List ℕ} {a b c : Bool} {k l : ℕ} {m' m : Reader A} {n' n : Reader B} (f' f : A → Reader B)
    (M : LocalIn e Q sh u a b k m' m) (F : (x : A) → LocalFrom e p Q sh₂ u b c l (f' (sh (length u) x)) (f x)) (N : LocalFrom e p Q sh₂ u a c (k + l) n' n) where
  pub branch_moved : LocalFrom e p Q sh₂ u a c (k + l) (branch m' f' n') (branch m f n)
  branch_moved =
      record {
        ends = λ s v i z w. ends s v i z w (m s i) (M.ends s v i z w);
        same = λ s v i z w. rw (M.same s v i z w) (same s v i z w (m s i) (M.ends s v i z w));
        near = λ s i h. near s i h (m s i) (M.ends s [] i stop_end tt) (M.near s i (omega arith));
      }
    where
      near : (s : List ℕ) (i : ℕ) → p ≤ max i (length s) → (x : Read A) → Ends (λ j. Past k s i j × Unit {0}) x → Near e (max i (length s)) x → Near e (max i (length s)) (follow s i x f n)
      near s i h (got x j) q w = near_up e (f x s j) (omega (arith, q.0)) ((F x).near s j (omega (arith, q.0)))
      near s i h none q w = N.near s i h
      near s i h (refused y l) q w = w

      ends : (s v : List ℕ) (i : ℕ) → Follows Q v → At v a s i → (x : Read A) → Ends (λ j. Past k s i j × At v b s j) x → Ends (λ j. Past (k + l) s i j × At v c s j) (follow s i x f n)
      ends s v i z w (got x j) p = ends_map (λ t q. (omega (arith, p.0, q.0), q.1)) (f x s j) ((F x).ends s v j z p.1)
      ends s v i z w none p = N.ends s v i z w
      ends s v i z w (refused y q) p = p

      same : (s v : List ℕ) (i : ℕ) → Follows Q v → At v a s i → (x : Read A) → Ends (λ j. Past k s i j × At v b s j) x →
          follow (u ++ (s ++ v)) (length u + i) (moved sh (length u) x) f' n' ≡ moved sh₂ (length u) (follow s i x f n)
      same s v i z w (got x j) p = (F x).same s v j z p.1
      same s v i z w none p = N.same s v i z w
      same s v i z w (refused y q) p = refl

module _ {e : Manner} {Q : Tail} {u : List ℕ} where
  -- the same for a value that holds none
  pub branch_local : {A B : Type 0} {p : ℕ} {sh₂ : ℕ → B → B} {a b c : Bool} {k l : ℕ} {m' m : Reader A} {f' f : A → Reader B} {n' n : Reader B} →
      LocalIn e Q keep u a b k m' m → ((x : A) → LocalFrom e p Q sh₂ u b c l (f' x) (f x)) → LocalFrom e p Q sh₂ u a c (k + l) n' n → LocalFrom e p Q sh₂ u a c (k + l) (branch m' f' n') (branch m f n)
  branch_local {f' = f'} {f} M F N = branch_moved f' f M F N

  -- one reader after another
  pub bind_local : {A B : Type 0} {p : ℕ} {sh₂ : ℕ → B → B} {a b c : Bool} {k l : ℕ} {m' m : Reader A} {f' f : A → Reader B} →
      LocalIn e Q keep u a b k m' m → ((x : A) → LocalFrom e p Q sh₂ u b c l (f' x) (f x)) → LocalFrom e p Q sh₂ u a c (k + l) (branch m' f' nothing) (branch m f nothing)
  bind_local M F = branch_local M F nothing_local

  -- one reader after another, of which the first takes the bytes, for a value that holds a place
  pub then_moved : {A B : Type 0} {p : ℕ} {sh : ℕ → A → A} {sh₂ : ℕ → B → B} {a b c : Bool} {k : ℕ} {m' m : Reader A} (f' f : A → Reader B) →
      LocalIn e Q sh u a b k m' m → ((x : A) → LocalFrom e p Q sh₂ u b c 0 (f' (sh (length u) x)) (f x)) → LocalFrom e p Q sh₂ u a c k (branch m' f' nothing) (branch m f nothing)
  then_moved f' f M F = loose (branch_moved {l = 0} f' f M F nothing_local) (omega arith)

  -- the place, and a reader that may refuse there
  pub here_then : {A : Type 0} {sh : ℕ → A → A} {a c : Bool} {k : ℕ} (f' f : ℕ → Reader A) → ((p : ℕ) → LocalFrom e p Q sh u a c k (f' (length u + p)) (f p)) →
      LocalIn e Q sh u a c k (branch here f' nothing) (branch here f nothing)
  here_then f' f F = record { ends = λ s v i z w. (F i).ends s v i z w; same = λ s v i z w. (F i).same s v i z w; near = λ s i h. (F i).near s i (omega arith) }

  -- the same for a value that holds none
  pub then_local : {A B : Type 0} {p : ℕ} {sh₂ : ℕ → B → B} {a b c : Bool} {k : ℕ} {m' m : Reader A} {f' f : A → Reader B} →
      LocalIn e Q keep u a b k m' m → ((x : A) → LocalFrom e p Q sh₂ u b c 0 (f' x) (f x)) → LocalFrom e p Q sh₂ u a c k (branch m' f' nothing) (branch m f nothing)
  then_local {f' = f'} {f} M F = then_moved f' f M F

  -- a value changed
  pub map_local : {A B : Type 0} {sh : ℕ → A → A} {sh₂ : ℕ → B → B} {a c : Bool} {k : ℕ} {m' m : Reader A} (f' f : A → B) → ((x : A) → f' (sh (length u) x) ≡ sh₂ (length u) (f x)) →
      LocalIn e Q sh u a c k m' m → LocalIn e Q sh₂ u a c k (branch m' (λ x. pure (f' x)) nothing) (branch m (λ x. pure (f x)) nothing)
  map_local f' f h M = then_moved (λ x. pure (f' x)) (λ x. pure (f x)) M (λ x. rw (h x) (pure_local (f x)))

  -- one reader or another
  pub or_local : {A : Type 0} {p : ℕ} {sh : ℕ → A → A} {a c : Bool} {k : ℕ} {m' m n' n : Reader A} → LocalIn e Q sh u a c k m' m → LocalFrom e p Q sh u a c k n' n →
      LocalFrom e p Q sh u a c k (branch m' pure n') (branch m pure n)
  or_local M N = loose (branch_moved pure pure M (λ x. pure_local x) (loose N (omega arith))) (omega arith)

  -- a reader, or a value
  pub maybe_local : {A : Type 0} {sh : ℕ → A → A} {a : Bool} {k : ℕ} {m' m : Reader A} → LocalIn e Q sh u a a k m' m → (x : A) →
      LocalIn e Q sh u a a 0 (branch m' pure (pure (sh (length u) x))) (branch m pure (pure x))
  maybe_local M x = or_local (free M) (pure_local x)

  -- where a reader finds none
  pub unless_local : {A : Type 0} {a c : Bool} {k : ℕ} {m' m : Reader A} → LocalIn e Q keep u a c k m' m →
      LocalIn e Q keep u a a 0 (branch m' (λ _. nothing) (pure tt)) (branch m (λ _. nothing) (pure (tt {0})))
  unless_local M = branch_local {k = 0} {l = 0} (free M) (λ x. nothing_local) (pure_local tt)

-- ---- one byte

-- a reading where a test passes
when_ends : {A : Type 0} (P : ℕ → Type 0) (t : Bool) (x : Read A) → (t ≡ true → Ends P x) → Ends P (when t x)
when_ends P true x h = h refl
when_ends P false x h = tt

when_near : {A : Type 0} (n : ℕ) (t : Bool) (x : Read A) → Near Second n x → Near Second n (when t x)
when_near n true x w = w
when_near n false x w = tt

when_moved : {A : Type 0} (sh : ℕ → A → A) (n : ℕ) (t : Bool) (x : Read A) → when t (moved sh n x) ≡ moved sh n (when t x)
when_moved sh n true x = refl
when_moved sh n false x = refl

-- a test of the text and the place that is the same after u and before v
module _ {Q : Tail} {u : List ℕ} {a : Bool} (t : List ℕ → ℕ → Bool) (alike : (s v : List ℕ) (i : ℕ) → Follows Q v → At v a s i → t (u ++ (s ++ v)) (length u + i) ≡ t s i) where
  pub look_local : Local Q keep u a a 0 (λ s i. only (t s i) s i) (λ s i. only (t s i) s i)
  look_local =
      record {
        ends = λ s v i z w. when_ends _ (t s i) (got tt i) (λ _. (omega arith, w));
        same = λ s v i z w. rw (alike s v i z w) (when_moved keep (length u) (t s i) (got tt i));
        near = λ s i h. when_near _ (t s i) (got tt i) tt;
      }

-- a test of neither
pub only_local : {Q : Tail} {u : List ℕ} {a : Bool} (t : Bool) → Local Q keep u a a 0 (only t) (only t)
only_local t = look_local (λ s i. t) (λ s v i z w. refl)

-- two places after u compare as they do in their text
pub compare_add : (n i j : ℕ) → compare (n + i) (n + j) ≡ compare i j
compare_add zero i j = simp zero-add
compare_add (suc n) i j = simp (suc-add, compare.suc-suc) (compare_add n i j)

-- one byte, after u
one_after : (p : ℕ → Bool) (u s : List ℕ) (i : ℕ) → one p (u ++ s) (length u + i) ≡ moved keep (length u) (one p s i)
unfolding one
one_after p u s i =
    rw (get_or-append-add u s i 0, length-append u s, ← add-suc (length u) i, compare_add (length u) (suc i) (length s)) (when_moved keep (length u) (ltb i (length s) && p
    (get_or s i 0)) (got (get_or s i 0) (suc i)))

-- one byte that passes a test and leads from side a to side c, and that no byte of v is
module _ {Q : Tail} {u : List ℕ} {a c : Bool} (p : ℕ → Bool) (turn : (s v : List ℕ) (i : ℕ) → Follows Q v → At v a s i → i < length s → p (get_or s i 0) ≡ true → At v c s (suc i))
    (cut : (s v : List ℕ) (i : ℕ) → Follows Q v → At v a s i → one p (s ++ v) i ≡ one p s i) where
  pub one_turns : Local Q keep u a c 1 (one p) (one p)
  unfolding one
  one_turns =
      record {
        ends = λ s v i z w. when_ends _ (ltb i (length s) && p (get_or s i 0)) (got (get_or s i 0) (suc i)) (found s v i z w);
        same = λ s v i z w. one_after p u (s ++ v) i ∙ ap (moved keep (length u)) (cut s v i z w);
        near = λ s i h. when_near _ (ltb i (length s) && p (get_or s i 0)) (got (get_or s i 0) (suc i)) tt;
      }
    where
      found : (s v : List ℕ) (i : ℕ) → Follows Q v → At v a s i → (ltb i (length s) && p (get_or s i 0)) ≡ true → Past 1 s i (suc i) × At v c s (suc i)
      found s v i z w e =
          let b = (and-eq-true_iff (ltb i (length s)) (p (get_or s i 0))).0 e in
          let h : i < length s = ltb-true i (length s) b.0 in
          (omega arith, turn s v i z w h b.1)

-- a flip undone
unflip : (t y z : Bool) → (if t then not y else y) ≡ (if t then not z else z) → y ≡ z
unflip true true true e = refl
unflip true true false e = sym e
unflip true false true e = sym e
unflip true false false e = refl
unflip false y z e = e

-- after a byte, which flips sides or not
pub next_at : {a c : Bool} {s : List ℕ} {i : ℕ} → Side a s i → i < length s → flips (get_or s i 0) c ≡ a → Side c s (suc i)
unfolding inside_of
next_at {a} {c} {s} {i} w h e = record { fits = h; side = unflip (eqb (get_or s i 0) 34) (inside_of (drop (suc i) s)) c (ap inside_of (sym (drop-cons s i 0 h)) ∙ w.side ∙ sym e) }

-- no quote: the side stays
pub stays : (p : ℕ → Bool) → p 34 ≡ false → (x : ℕ) (a : Bool) → p x ≡ true → flips x a ≡ a
stays p e x a h = ap (λ (t : Bool). if t then not a else a) (ne_eqb x 34 (λ q. true≢false (sym h ∙ ap p q ∙ e)))

-- the end stands outside
end_outside : {a : Bool} {s : List ℕ} {i : ℕ} → Side a s i → length s ≤ i → a ≡ false
unfolding inside_of
end_outside {s = s} {i} w h = sym w.side ∙ ap inside_of (drop_of_length-le s h)

-- one byte that passes a test, which a `;` outside does not
module _ {u : List ℕ} {a c : Bool} (p : ℕ → Bool) (turn : (x : ℕ) → p x ≡ true → flips x c ≡ a) (quiet : a ≡ false → p 59 ≡ false) where
  turn_local : Local Stop keep u a c 1 (one p) (one p)
  unfolding one
  turn_local = one_turns p turns cut
    where
      turns : (s v : List ℕ) (i : ℕ) → Follows Stop v → At v a s i → i < length s → p (get_or s i 0) ≡ true → At v c s (suc i)
      turns s v i stop_end w h e = tt
      turns s v i (stop_at t) w h e = next_at w h (turn (get_or s i 0) e)

      at : (s t : List ℕ) (i : ℕ) → Side a s i → Dec (i < length s) → one p (s ++ 59 ∷ t) i ≡ one p s i
      at s t i w (yes h) = rw (get_or-append s (59 ∷ t) 0 i h, lt-ltb i (length s) h, lt-ltb i (length (s ++ 59 ∷ t)) (simp length-append (omega arith)))
      at s t i w (no h) = rw (get_or_at s 59 t 0 i (omega (arith, w.fits)), quiet (end_outside w (omega arith)), and-false, le-ltb i (length s) (omega arith))

      cut : (s v : List ℕ) (i : ℕ) → Follows Stop v → At v a s i → one p (s ++ v) i ≡ one p s i
      cut s v i stop_end w = rw append-nil
      cut s v i (stop_at t) w = at s t i w (dec_lt i (length s))

-- outside: a byte that is no quote and no `;`
pub one_local : {u : List ℕ} (p : ℕ → Bool) → p 34 ≡ false → p 59 ≡ false → Local Stop keep u false false 1 (one p) (one p)
one_local p e f = turn_local p (λ x h. stays p e x false h) (λ _. f)

-- inside: a byte that is no quote
pub inner_local : {u : List ℕ} (p : ℕ → Bool) → p 34 ≡ false → Local Stop keep u true true 1 (one p) (one p)
inner_local p e = turn_local p (λ x h. stays p e x true h) (λ h. absurd (true≢false h))

-- a quote turns sides
quote_turns : (a : Bool) (x : ℕ) → eqb 34 x ≡ true → flips x (not a) ≡ a
quote_turns true x h = rw (← eqb-true 34 x h)
quote_turns false x h = rw (← eqb-true 34 x h)

pub quote_local : {u : List ℕ} (a : Bool) → Local Stop keep u a (not a) 1 (byte 34) (byte 34)
unfolding byte
quote_local a = map_local _ _ (λ x. refl) (turn_local (eqb 34) (quote_turns a) (λ _. refl))

-- a look at the byte, which does not tell a `;` from the end
module _ {u : List ℕ} {a : Bool} (p : ℕ → Bool) (e : p 59 ≡ p 0) where
  pub ahead_local : Local Stop keep u a a 0 (ahead p) (ahead p)
  unfolding ahead
  ahead_local = look_local (λ s i. p (get_or s i 0)) (λ s v i z w. rw (get_or-append-add u (s ++ v) i 0) (cut s v i z w))
    where
      at : (s t : List ℕ) (i : ℕ) → i ≤ length s → p (get_or (s ++ 59 ∷ t) i 0) ≡ p (get_or s i 0)
      at [] t zero h = e
      at [] t (suc i) h = absurd (omega arith)
      at (x ∷ s) t zero h = refl
      at (x ∷ s) t (suc i) h = at s t i (omega arith)

      cut : (s v : List ℕ) (i : ℕ) → Follows Stop v → At v a s i → p (get_or (s ++ v) i 0) ≡ p (get_or s i 0)
      cut s v i stop_end w = rw append-nil
      cut s v i (stop_at t) w = at s t i w.fits
