-- The law of chains, without fuel.
use Prim.Native.Nat.{ℕ, zero, suc, ◌-◌, ◌≤◌, ◌<◌}
use mathlib.Core.List.{List}
use mathlib.Core.Path.{◌≡◌, refl}
use native.Mathlib.Omega.{arith}
use lib.ListN.{length}
use Rattle.names.specs.Read.{Read, got, none, refused, Reader, follow, branch, map}
use Rattle.names.specs.Chain.{before, last, chain_in, chain}
use Rattle.names.proofs.Local.{Ends}

-- each item takes a byte of the text
module _ {S A B : Type 0} (more : S → Reader (A × S)) (end : S → Reader B) (takes : (x : S) (s : List ℕ) (i : ℕ) → Ends (λ j. (i < j) × (j ≤ length s)) (more x s i)) where
  -- two ways to go on that agree on each later place of the text
  agree : (x : S) (s : List ℕ) (i : ℕ) (f g : S → Reader (List A × B)) → ((y : S) (j : ℕ) → i < j → j ≤ length s → f y s j ≡ g y s j) → (r : Read (A × S)) → Ends (λ j. (i < j) × (j ≤ length s)) r →
      follow s i r (λ c. map (before c.0) (f c.1)) (map last (end x)) ≡ follow s i r (λ c. map (before c.0) (g c.1)) (map last (end x))
  agree x s i f g e (got r j) p = rw (e r.1 j p.0 p.1)
  agree x s i f g e none p = refl
  agree x s i f g e (refused k q) p = refl

  -- any two fuels that are enough
  pub enough : (n m : ℕ) (x : S) (s : List ℕ) (i : ℕ) → length s - i < n → length s - i < m → chain_in n more end x s i ≡ chain_in m more end x s i
  unfolding chain_in
  enough zero m x s i p q = absurd (omega arith)
  enough (suc n) zero x s i p q = absurd (omega arith)
  enough (suc n) (suc m) x s i p q = agree x s i (chain_in n more end) (chain_in m more end) (λ y j a b. enough n m y s j (omega arith) (omega arith)) (more x s i) (takes x s i)

  -- a chain is an item and the chain from there, or an end
  pub chain_is : (x : S) (s : List ℕ) (i : ℕ) → chain more end x s i ≡ branch (more x) (λ c. map (before c.0) (chain more end c.1)) (map last (end x)) s i
  unfolding chain chain_in
  chain_is x s i = agree x s i (chain_in (length s) more end) (chain more end) (λ y j a b. enough (length s) (suc (length s)) y s j (omega arith) (omega arith)) (more x s i) (takes x s i)
