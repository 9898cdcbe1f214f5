-- Chains depend on nothing before their place and nothing from a `;` outside quotes on.
use Prim.Native.Nat.{ℕ, zero, suc, ◌≤◌}
use mathlib.Core.List.{List, ◌++◌}
use mathlib.Core.List as list
use mathlib.Core.Bool.{Bool}
use mathlib.Core.Path.{refl, ap, ◌∙◌}
use native.Mathlib.Omega.{arith}
use lib.ListN.{length, length-append}
use Rattle.names.specs.Read.{Reader, map}
use Rattle.names.specs.declared.Manner.{Manner}
use Rattle.names.specs.Chain.{before, last, chain_in, chain, many}
use Rattle.names.proofs.Local.{Tail, moved, LocalIn, Local, keep, loose, takes, nothing_local, pure_local, branch_moved, map_local}
use Rattle.names.proofs.Fuel.{enough}

-- how an item and a state move, and how a chain's value does
abbrev pub step_moves : {S A : Type 0} → (ℕ → A → A) → ℕ → A × S → A × S
step_moves sh n r = (sh n r.0, r.1)

abbrev pub chain_moves : {A B : Type 0} → (ℕ → A → A) → (ℕ → B → B) → ℕ → List A × B → List A × B
chain_moves shA shB n r = (list.map (shA n) r.0, shB n r.1)

module _ {S A B : Type 0} {e : Manner} {Q : Tail} (shA : ℕ → A → A) {shB : ℕ → B → B} {u : List ℕ} {a : Bool} {k : ℕ} {more' more : S → Reader (A × S)} {end' end : S → Reader B}
    (M : (x : S) → LocalIn e Q (step_moves shA) u a a (suc k) (more' x) (more x)) (E : (x : S) → LocalIn e Q shB u a a 0 (end' x) (end x)) where
  -- with any fuel, from a state in which an end takes l bytes at least
  fuelled : (n l : ℕ) (x : S) → l ≤ 1 → LocalIn e Q shB u a a l (end' x) (end x) → LocalIn e Q (chain_moves shA shB) u a a l (chain_in n more' end' x) (chain_in n more end x)
  unfolding chain_in
  fuelled zero l x h F = nothing_local
  fuelled (suc n) l x h F =
      loose
      (branch_moved {k = l} {l = 0} (λ c. map (before c.0) (chain_in n more' end' c.1)) (λ c. map (before c.0) (chain_in n more end c.1))
      (loose (M x) (omega arith))
      (λ c. map_local (before (shA (length u) c.0)) (before c.0) (λ r. refl) (fuelled n 0 c.1 (omega arith) (E c.1)))
      (map_local last last (λ b. refl) (loose F (omega arith))))
      (omega arith)

  -- with the chain's own
  fed : (l : ℕ) (x : S) → l ≤ 1 → LocalIn e Q shB u a a l (end' x) (end x) → LocalIn e Q (chain_moves shA shB) u a a l (chain more' end' x) (chain more end x)
  unfolding chain
  fed l x h F =
      record {
        ends = λ s v i z w. (fuelled (suc (length s)) l x h F).ends s v i z w;
        same = λ s v i z w.
            (fuelled (suc (length (u ++ (s ++ v)))) l x h F).same s v i z w
            ∙ ap (moved (chain_moves shA shB) (length u)) (enough more end (λ y. takes (M y)) (suc (length (u ++ (s ++ v)))) (suc (length s)) x s i (simp length-append (omega arith)) (omega arith));
        near = λ s i o. (fuelled (suc (length s)) l x h F).near s i o;
      }

  -- a chain, moved and cut
  pub chain_local : (x : S) → LocalIn e Q (chain_moves shA shB) u a a 0 (chain more' end' x) (chain more end x)
  chain_local x = fed 0 x (omega arith) (E x)

  -- from a state in which an end takes a byte, a chain does
  pub chain_takes : (x : S) → LocalIn e Q shB u a a 1 (end' x) (end x) → LocalIn e Q (chain_moves shA shB) u a a 1 (chain more' end' x) (chain more end x)
  chain_takes x F = fed 1 x (omega arith) F

-- one item after another
pub many_local : {A : Type 0} {Q : Tail} {u : List ℕ} {a : Bool} {k : ℕ} {m : Reader A} → Local Q keep u a a (suc k) m m → Local Q keep u a a 0 (many m) (many m)
unfolding many
many_local M = map_local _ _ (λ l. list.map-id l.0) (chain_local keep (λ x. map_local _ _ (λ y. refl) M) (λ x. pure_local x) tt)
