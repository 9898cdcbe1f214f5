-- What has to stand at a place is there, or refused.
use Prim.Native.Nat.{ℕ, zero, suc, ◌-◌, ◌≤◌, ◌<◌}
use mathlib.Core.List.{List}
use mathlib.Core.Path.{◌≡◌, refl, subst}
use native.Mathlib.Omega.{arith}
use lib.Dec.{eqb}
use lib.ListN.{length}
use Rattle.names.specs.Read.{Read, got, none, refused, Reader, follow, nothing, pure, map}
use Rattle.names.specs.Chain.{before, last, chain_in, chain}
use Rattle.names.specs.Texts.{blank, blanks}
use Rattle.names.proofs.Local.{Ends}
use Rattle.names.proofs.Skips.{skip_sure}
use Rattle.items.specs.Musts.{missing, must}
use Rattle.items.proofs.Blanks.{blanks_again}

-- a reading that finds a shape, or a refusal
abbrev pub Sure : {A : Type 0} → Read A → Type 0
Sure (got a j) = Unit {0}
Sure none = ⊥
Sure (refused k p) = Unit {0}

pub sure : {A : Type 0} {r : Read A} → Sure r → r ≡ none → ⊥
sure h e = subst Sure e h

-- one after another, of which each is
pub then_sure : {A B : Type 0} (s : List ℕ) (i : ℕ) (f : A → Reader B) (r : Read A) → Sure r → ((a : A) (j : ℕ) → Sure (f a s j)) → Sure (follow s i r f nothing)
then_sure s i f (got a j) h k = k a j
then_sure s i f none h k = h
then_sure s i f (refused e p) h k = tt

-- one or another, of which the other is
pub or_sure : {A : Type 0} (s : List ℕ) (i : ℕ) (r : Read A) (n : Reader A) → Sure (n s i) → Sure (follow s i r pure n)
or_sure s i (got a j) n h = tt
or_sure s i none n h = h
or_sure s i (refused k p) n h = tt

-- what follows is all that is read: no other is tried
pub sure_then : {A B : Type 0} (s : List ℕ) (i j : ℕ) (f : A → B) (r : Read A) (n : Reader B) → Sure r → follow s i r (λ a. pure (f a)) n ≡ follow s j r (λ a. pure (f a)) nothing
sure_then s i j f (got a k) n h = refl
sure_then s i j f none n h = absurd h
sure_then s i j f (refused k p) n h = refl

pub sure_or : {A : Type 0} (s : List ℕ) (i : ℕ) (r : Read A) (n : Reader A) → Sure r → follow s i r pure n ≡ r
sure_or s i (got a k) n h = refl
sure_or s i none n h = absurd h
sure_or s i (refused k p) n h = refl

-- what is missing is refused
pub missing_sure : (A : Type 0) (s : List ℕ) (i : ℕ) → Sure (missing {A = A} s i)
unfolding missing blanks
missing_sure A s i = rw (skip_sure (eqb 32) s i).1 tt

pub must_sure : {A : Type 0} (s : List ℕ) (i : ℕ) (m : Reader A) → Sure (must m s i)
must_sure {A} s i m = or_sure s i (m s i) missing (missing_sure A s i)

-- a blank does not change what is missing
pub missing_apart : (A : Type 0) (s : List ℕ) (i : ℕ) {j : ℕ} → blank s i ≡ got tt j → missing {A = A} s i ≡ missing s j
unfolding missing
missing_apart A s i e = let b = blanks_again s i e in rw (b.0, b.1)

-- a chain whose items take a byte each, and that ends where there is no item
module _ {S A B : Type 0} (more : S → Reader (A × S)) (end : S → Reader B) (s : List ℕ) (takes : (x : S) (i : ℕ) →
    Ends (λ j. (i < j) × (j ≤ length s)) (more x s i)) (ends : (x : S) (i : ℕ) → more x s i ≡ none → Sure (end x s i)) where
  fed_sure : (n : ℕ) (x : S) (i : ℕ) → length s - i < n → Sure (chain_in n more end x s i)
  unfolding chain_in
  fed_sure zero x i h = absurd (omega arith)
  fed_sure (suc n) x i h = go (λ y j k. fed_sure n y j k) (more x s i) refl (takes x i)
    where
      go : ((y : S) (j : ℕ) → length s - j < n → Sure (chain_in n more end y s j)) → (r : Read (A × S)) → more x s i ≡ r → Ends (λ j. (i < j) × (j ≤ length s)) r →
          Sure (follow s i r (λ c. map (before c.0) (chain_in n more end c.1)) (map last (end x)))
      go later (got c j) e p = then_sure s j (λ l. pure (before c.0 l)) (chain_in n more end c.1 s j) (later c.1 j (omega arith)) (λ _ _. tt)
      go later none e p = then_sure s i (λ b. pure (last b)) (end x s i) (ends x i e) (λ _ _. tt)
      go later (refused k q) e p = tt

  pub chain_sure : (x : S) (i : ℕ) → Sure (chain more end x s i)
  unfolding chain
  chain_sure x i = fed_sure (suc (length s)) x i (omega arith)
