-- Items and bytes one after another, a step at a time, at any place: what loops of the code go by.
use Prim.Native.Nat.{ℕ, zero, suc, ◌+◌, ◌≤◌, ◌<◌}
use mathlib.Core.List.{List, [], ◌∷◌}
use mathlib.Core.Bool.{Bool, true, false}
use mathlib.Core.Path.{◌≡◌, refl, sym, ◌∙◌}
use native.Mathlib.Omega.{arith}
use native.Mathlib.Decide.{dec_lt}
use lib.ListN.{length, get_or}
use borrow.Author.Tests.{lt-ltb, le-ltb}
use Rattle.names.specs.Read.{Read, got, none, refused, Reader, follow, branch, nothing, pure, map, one}
use Rattle.names.specs.Chain.{before, last, chain, many, skip}
use Rattle.names.proofs.Local.{Ends, takes}
use Rattle.names.proofs.Ended.{one_ended}
use Rattle.names.proofs.Fuel.{chain_is}

-- a value changed twice
pub map_map : {A B C : Type 0} (f : A → B) (g : B → C) (s : List ℕ) (i j : ℕ) (r : Read A) →
    follow s i (follow s j r (λ a. pure (f a)) nothing) (λ b. pure (g b)) nothing ≡ follow s j r (λ a. pure (g (f a))) nothing
map_map f g s i j (got a t) = refl
map_map f g s i j none = refl
map_map f g s i j (refused k p) = refl

-- each item takes a byte of the text: an item and those after it, or none
module _ {A : Type 0} (m : Reader A) (takes : (s : List ℕ) (i : ℕ) → Ends (λ j. (i < j) × (j ≤ length s)) (m s i)) where
  pub many_is : (s : List ℕ) (i : ℕ) → many m s i ≡ branch m (λ a. map (λ l. a ∷ l) (many m)) (pure []) s i
  unfolding many
  many_is s i = rw (chain_is more pure (λ x s i. item x s i (m s i) (takes s i)) tt s i) (go (m s i))
    where
      more : Unit {0} → Reader (A × Unit {0})
      more x = map (λ a. (a, x)) m

      item : (x : Unit {0}) (s : List ℕ) (i : ℕ) (r : Read A) → Ends (λ j. (i < j) × (j ≤ length s)) r →
          Ends {A = A × Unit {0}} (λ j. (i < j) × (j ≤ length s)) (follow s i r (λ a. pure (a, x)) nothing)
      item x s i (got a j) p = p
      item x s i none p = p
      item x s i (refused k q) p = p

      go : (r : Read A) →
          follow s i (follow {A = A × Unit {0}} s i (follow s i r (λ a. pure (a, tt)) nothing) (λ c. map (before c.0) (chain more pure c.1)) (map last (pure tt))) (λ l. pure l.0) nothing
          ≡ follow s i r (λ a. map (λ l. a ∷ l) (many m)) (pure [])
      go (got a j) = map_map (before a) (λ l. l.0) s i j (chain more pure tt s j) ∙ sym (map_map (λ l. l.0) (λ l. a ∷ l) s j j (chain more pure tt s j))
      go none = refl
      go (refused k q) = refl

-- bytes that pass a test: one more, up to the first that does not or the text's end
module _ (p : ℕ → Bool) (s : List ℕ) (i : ℕ) where
  skip_is : skip p s i ≡ branch (one p) (λ _. skip p) (pure tt) s i
  unfolding skip
  skip_is = rw (many_is (one p) (takes (one_ended {u = []} {a = false} {c = false} p)) s i) (go (one p s i))
    where
      go : (r : Read ℕ) → follow s i (follow s i r (λ b. map (λ l. b ∷ l) (many (one p))) (pure [])) (λ _. pure tt) nothing ≡ follow s i r (λ _. skip p) (pure (tt {0}))
      go (got b j) = map_map (λ l. b ∷ l) (λ _. tt) s i j (many (one p) s j)
      go none = refl
      go (refused k q) = refl

  pub skip_more : i < length s → p (get_or s i 0) ≡ true → skip p s i ≡ skip p s (suc i)
  unfolding one
  skip_more h e = rw (skip_is, lt-ltb i (length s) h, e)

  pub skip_stop : i < length s → p (get_or s i 0) ≡ false → skip p s i ≡ got tt i
  unfolding one
  skip_stop h e = rw (skip_is, lt-ltb i (length s) h, e)

  pub skip_end : length s ≤ i → skip p s i ≡ got tt i
  unfolding one
  skip_end h = rw (skip_is, le-ltb i (length s) h)

-- bytes are always skipped, if only none
skip_within : (p : ℕ → Bool) (s : List ℕ) (n i : ℕ) → length s ≤ n + i → (j : ℕ) × (skip p s i ≡ got tt j)
skip_within p s zero i h = (i, skip_end p s i (omega arith))
skip_within p s (suc n) i h = go (skip_within p s n (suc i) (omega arith)) (dec_lt i (length s)) (p (get_or s i 0)) refl
  where
    go : (j : ℕ) × (skip p s (suc i) ≡ got tt j) → Dec (i < length s) → (t : Bool) → p (get_or s i 0) ≡ t → (j : ℕ) × (skip p s i ≡ got tt j)
    go r (yes q) true t = (r.0, skip_more p s i q t ∙ r.1)
    go r (yes q) false t = (i, skip_stop p s i q t)
    go r (no q) u t = (i, skip_end p s i (omega arith))

pub skip_sure : (p : ℕ → Bool) (s : List ℕ) (i : ℕ) → (j : ℕ) × (skip p s i ≡ got tt j)
skip_sure p s i = skip_within p s (length s) i (omega arith)
