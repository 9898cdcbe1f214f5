-- Laws of the times that code's own steps go by.
use Prim.Native.Nat.{ℕ}
use mathlib.Core.Bool.{Bool, true, false, and-false}
use mathlib.Core.List.{List}
use mathlib.Core.Path.{◌≡◌, refl, sym, ◌∙◌}
use native.Mathlib.Omega.{arith}
use borrow.Author.Tests.{eqb-true, ne_eqb}
use lib.Dec.{eqb}
use lib.ListN.{get_or}
use Rattle.names.specs.Read.{Read, got, none, refused, follow, nothing, pure, one}
use Rattle.names.specs.Texts.{byte}
use Rattle.names.proofs.Laws.{or_none}
use Rattle.times.specs.Times.{Event, clock, sun, sun_of, with_offset}

-- where one sign stands, another does not
sign_alone : (b d : ℕ) (s : List ℕ) (i : ℕ) {j : ℕ} → (b ≡ d → ⊥) → byte b s i ≡ got tt j → byte d s i ≡ none
unfolding byte one
sign_alone b d s i n p = go (eqb b (get_or s i 0)) refl
  where
    go : (t : Bool) → eqb b (get_or s i 0) ≡ t → byte d s i ≡ none
    go true e = rw (ne_eqb d (get_or s i 0) (λ f. n (eqb-true _ _ e ∙ sym f)), and-false)
    go false e = let f : byte b s i ≡ none = rw (e, and-false) in cc

-- a clock time that is added to an event, or taken off
sun_is : (e : Event) (negative : Bool) (s : List ℕ) (j : ℕ) (r : Read ℕ) → follow s j r (λ c. pure (sun e negative c)) nothing ≡ sun_of e negative r
sun_is e negative s j (got c k) = refl
sun_is e negative s j none = refl
sun_is e negative s j (refused k p) = refl

-- after a plus
pub with_offset_plus : (e : Event) (s : List ℕ) (i : ℕ) {j : ℕ} → byte 43 s i ≡ got tt j → with_offset e s i ≡ sun_of e false (clock s j)
unfolding with_offset
with_offset_plus e s i {j} p = rw (p, sun_is e false s j (clock s j)) (or_none s i _ _ (rw (sign_alone 43 45 s i (λ q. omega arith) p)))
