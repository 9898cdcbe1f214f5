-- A rule takes as many bytes of its text as it has records at least: each item, with the comma or the blank before it, takes two, and a rule without items takes one.
-- It has at most 6 warnings for each record.
use Prim.Native.Nat.{ℕ, zero, suc, ◌+◌, ◌*◌, ◌≤◌}
use mathlib.Core.List.{List, []}
use mathlib.Core.Path.{◌≡◌, refl}
use native.Mathlib.Omega.{arith}
use lib.ListN.{length}
use Rattle.names.specs.declared.Manner.{Manner}
use Rattle.names.specs.Read.{Read, got, none, refused, follow, map}
use Rattle.names.specs.Chain.{before, last, chain_in, chain}
use Rattle.names.proofs.Local.{past, past_one}
use Rattle.names.proofs.Upto.{Upto, upto_then, upto_map, upto_less}
use Rattle.records.specs.Words.{Placed}
use Rattle.rules.specs.Pieces.{more, end}
use Rattle.rules.specs.Rules.{opening, Rule, rule_of, after_opening, rule}
use Rattle.rules.specs.declared.Stage.{Stage}
use Rattle.rules.specs.declared.Tail.{Tail}
use Rattle.rules.proofs.Cut.{more_local, end_local, opening_local, rule_local}
use Rattle.rules.proofs.Warned.{rule_warnings_few}

module _ (m : Manner) (s : List ℕ) where
  -- items, two bytes each
  abbrev Pieces : ℕ → List Placed × Tail → ℕ → Type 0
  Pieces i r j = i + length r.0 * 2 ≤ j

  pieces_in : (n : ℕ) (x : Stage) (i : ℕ) → Upto (Pieces i) (chain_in n (more m) end x s i)
  unfolding chain_in
  pieces_in zero x i = tt
  pieces_in (suc n) x i = go (λ y j. pieces_in n y j) (more m x s i) refl
    where
      go : ((y : Stage) (j : ℕ) → Upto (Pieces j) (chain_in n (more m) end y s j)) → (r : Read (Placed × Stage)) → more m x s i ≡ r →
          Upto (Pieces i) (follow s i r (λ c. map (before c.0) (chain_in n (more m) end c.1)) (map last (end x)))
      go later (got c j) e =
          let p = past (more_local {u = []} m x) e in
          upto_map (Pieces i) s j (before c.0) (chain_in n (more m) end c.1 s j)
          (upto_less (Pieces j) (λ r k. Pieces i (before c.0 r) k) (λ r k h. omega (arith, h, p.moves)) (chain_in n (more m) end c.1 s j) (later c.1 j))
      go later none e = upto_then (Pieces i) s i _ (end x s i) (λ b j f. omega (arith, (past (end_local x) f).moves))
      go later (refused k p) e = tt

  -- those of a rule, and its warnings
  abbrev Items : ℕ → Rule → ℕ → Type 0
  Items i r j = (r.0.warnings ≤ suc (length r.1) * 6) × (i + length r.1 * 2 ≤ j)

  rule_items : (separator i : ℕ) → Upto (Items i) (rule m separator s i)
  unfolding rule after_opening chain
  rule_items separator i =
      upto_then (Items i) s i (after_opening m i separator) (opening s i) (λ o j e.
      let all = chain_in (suc (length s)) (more m) end o.stage s j in
      upto_map (Items i) s j (rule_of i separator o.comment) all
      (upto_less (Pieces j) (λ r k. Items i (rule_of i separator o.comment r) k)
      (λ r k h. (rule_warnings_few i separator o.comment r, omega (arith, h, (past opening_local e).moves))) all (pieces_in (suc (length s)) o.stage j)))

  -- these and the head take a byte each at least
  pub rule_takes : (separator i : ℕ) → Upto (λ r j. (r.0.warnings ≤ suc (length r.1) * 6) × (i + suc (length r.1) ≤ j)) (rule m separator s i)
  rule_takes separator i = go (rule m separator s i) refl (rule_items separator i)
    where
      go : (r : Read Rule) → rule m separator s i ≡ r → Upto (Items i) r → Upto (λ r j. (r.0.warnings ≤ suc (length r.1) * 6) × (i + suc (length r.1) ≤ j)) r
      go (got r j) e h = (h.0, omega (arith, h.1, past_one (rule_local m separator) e))
      go none e h = tt
      go (refused k p) e h = tt
