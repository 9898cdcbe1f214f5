-- Blanks lead to one place, from their beginning and from their end.
use Prim.Native.Nat.{ℕ, zero, suc, ◌+◌, ◌≤◌, ◌<◌}
use mathlib.Core.List.{List}
use mathlib.Core.Bool.{Bool, true, false, ◌&&◌}
use mathlib.Core.Path.{◌≡◌, refl, sym, ◌∙◌, subst}
use native.Mathlib.Omega.{arith}
use native.Mathlib.Decide.{dec_lt}
use borrow.Author.Tests.{ltb-true}
use lib.Dec.{ltb, eqb}
use lib.ListN.{length, get_or}
use Rattle.names.specs.Read.{got, follow, nothing, pure, when, one}
use Rattle.names.specs.Chain.{skip}
use Rattle.names.specs.Texts.{byte, blank, blanks}
use Rattle.names.proofs.Skips.{skip_more, skip_stop, skip_end}

module _ (p : ℕ → Bool) (s : List ℕ) where
  -- bytes were skipped from i to j: none is left there
  abbrev Ended : ℕ → ℕ → Type 0
  Ended i j = skip p s i ≡ got tt j → skip p s j ≡ got tt j

  place : {i j : ℕ} → got (tt {0}) i ≡ got tt j → i ≡ j
  place e = cc

  stops : (i j : ℕ) → skip p s i ≡ got tt i → Ended i j
  stops i j h e = let q : i ≡ j = place (sym h ∙ e) in subst (λ (k : ℕ). skip p s k ≡ got tt k) q h

  step : (i j : ℕ) → Ended (suc i) j → Dec (i < length s) → (t : Bool) → p (get_or s i 0) ≡ t → Ended i j
  step i j f (yes q) true t e = f (sym (skip_more p s i q t) ∙ e)
  step i j f (yes q) false t e = stops i j (skip_stop p s i q t) e
  step i j f (no q) u t e = stops i j (skip_end p s i (omega arith)) e

  ended : (n i j : ℕ) → length s ≤ n + i → Ended i j
  ended zero i j h = stops i j (skip_end p s i (omega arith))
  ended (suc n) i j h = step i j (ended n (suc i) j (omega arith)) (dec_lt i (length s)) (p (get_or s i 0)) refl

pub blanks_again : (s : List ℕ) (i : ℕ) {j : ℕ} → blank s i ≡ got tt j → (blanks s i ≡ got tt j) × (blanks s j ≡ got tt j)
unfolding blank blanks byte one
blanks_again s i {j} e = go (ltb i (length s)) (eqb 32 (get_or s i 0)) refl refl e
  where
    go : (t u : Bool) → ltb i (length s) ≡ t → eqb 32 (get_or s i 0) ≡ u →
        follow s i (follow s i (when (t && u) (got (get_or s i 0) (suc i))) (λ _. pure (tt {0})) nothing) (λ _. skip (eqb 32)) nothing ≡ got tt j →
        (skip (eqb 32) s i ≡ got tt j) × (skip (eqb 32) s j ≡ got tt j)
    go true true h k e = (skip_more (eqb 32) s i (ltb-true i (length s) h) k ∙ e, ended (eqb 32) s (length s) (suc i) j (omega arith) e)
    go true false h k e = absurd (let z : ◌≡◌ {A = ℕ} 0 1 = cc in omega arith)
    go false u h k e = absurd (let z : ◌≡◌ {A = ℕ} 0 1 = cc in omega arith)
