-- The places of a rule's items rise strictly, and are places of the rule.
use Prim.Native.Nat.{ℕ, zero, suc, ◌≤◌}
use mathlib.Core.List.{List, [], ◌∷◌}
use mathlib.Core.Path.{◌≡◌, refl, subst}
use native.Mathlib.Omega.{arith}
use lib.ListN.{length}
use Rattle.names.specs.Read.{Read, got, none, refused, follow, map}
use Rattle.names.specs.Chain.{before, last, chain_in, chain}
use Rattle.names.specs.Texts.{comma}
use Rattle.names.proofs.Local.{past, past_one}
use Rattle.names.proofs.Upto.{Upto, upto_then, upto_or, upto_map, upto_less}
use Rattle.names.proofs.Cut.{comma_local}
use Rattle.names.specs.declared.Manner.{Manner}
use Rattle.items.specs.Musts.{must}
use Rattle.records.specs.Words.{Placed}
use Rattle.items.specs.Kinds.{after_blank, item_in}
use Rattle.items.specs.declared.Kind.{Kind}
use Rattle.items.proofs.Places.{Inside, inside_from, must_upto, after_blank_upto, item_in_inside}
use Rattle.rules.specs.Rows.{small, first, listed, following}
use Rattle.rules.specs.Pieces.{item_from, goes_on, after_colon, colon_sign, colon, more, end}
use Rattle.rules.specs.Rules.{opening, Rule, rule_of, after_opening, rule}
use Rattle.rules.specs.Places.{Rising, PlacesRise}
use Rattle.rules.specs.declared.Opening.{Opening}
use Rattle.rules.specs.declared.Stage.{Stage}
use Rattle.rules.specs.declared.Stage.TheVariants.{Beginning, Always, Colon, After}
use Rattle.rules.specs.declared.Tail.{Tail}
use Rattle.rules.proofs.Cut.{colon_sign_local, end_local, opening_local, rule_local}

-- an item that is read from i up to j, and the stage after it
abbrev Next : ℕ → Placed × Stage → ℕ → Type 0
Next i a j = Inside i a.0 j

module _ (m : Manner) (s : List ℕ) where
  item_inside : (ks : List Kind) (i j : ℕ) → i ≤ j → Upto (Next i) (item_from m ks s j)
  item_inside ks i j h =
      upto_map (Next i) s j (λ a. (a.0, After a.1)) (item_in m ks s j)
      (upto_less (λ x k. Inside j x.0 k) (λ x k. Inside i x.0 k) (λ x k. inside_from x.0 k h) (item_in m ks s j) (item_in_inside s m ks j))

  after_blank_inside : (ks : List Kind) (i j : ℕ) → i ≤ j → Upto (Next i) (after_blank (item_from m ks) s j)
  after_blank_inside ks i j h = after_blank_upto s (Next i) j (item_from m ks) (λ k l. item_inside ks i k (omega arith))

  colon_inside : (i j : ℕ) → i ≤ j → Upto (Next i) (after_colon m s j)
  colon_inside i j h = must_upto s (Next i) j (after_blank (item_from m small)) (after_blank_inside small i j h)

  goes_on_inside : (k : Kind) (i : ℕ) → Upto (Next i) (goes_on m k s i)
  unfolding goes_on
  goes_on_inside k i =
      let after-comma : (j : ℕ) → i ≤ j → Upto (Next i) (must (item_from m (listed k)) s j) = λ j h. must_upto s (Next i) j (item_from m (listed k)) (item_inside (listed k) i j h) in
      upto_then (Next i) s i _ (comma s i) (λ _ j e. after-comma j (omega (arith, (past_one comma_local e).0)))

  colon_item_inside : (k : Kind) (i : ℕ) → Upto (Next i) (colon m k s i)
  unfolding colon
  colon_item_inside k i = upto_then (Next i) s i _ (colon_sign k s i) (λ _ j e. colon_inside i j (omega (arith, (past_one (colon_sign_local k) e).0)))

  -- the item of a piece
  pub more_inside : (x : Stage) (i : ℕ) → Upto (Next i) (more m x s i)
  unfolding more
  more_inside Beginning i = item_inside first i i (omega arith)
  more_inside Always i = tt
  more_inside Colon i = colon_inside i i (omega arith)
  more_inside (After k) i =
      upto_or (Next i) s i (goes_on m k s i) _ (goes_on_inside k i)
      (upto_or (Next i) s i (colon m k s i) _ (colon_item_inside k i) (after_blank_inside (following k) i i (omega arith)))

-- from an earlier place on, and before a later one
rising_wide : (l : List Placed) (i j k n : ℕ) → i ≤ j → k ≤ n → Rising j l k → Rising i l n
rising_wide [] i j k n h g r = tt
rising_wide (a ∷ l) i j k n h g r = (omega (arith, r.0), omega (arith, r.1), rising_wide l (suc a.1) (suc a.1) k n (omega arith) g r.2)

-- a rule that begins at i, and its items
abbrev RuleRises : ℕ → Rule → ℕ → Type 0
RuleRises i r j = (r.0.place ≡ i) × Rising i r.1 j

module _ (m : Manner) (s : List ℕ) where
  -- the pieces of a rule
  abbrev Rises : ℕ → List Placed × Tail → ℕ → Type 0
  Rises i r j = (i ≤ j) × Rising i r.0 j

  -- an item, and pieces that rise from where it ends
  with_item_lem : (i j : ℕ) (a : Placed) (r : List Placed × Tail) (k : ℕ) → Inside i a j → Rises j r k → Rises i (before a r) k
  with_item_lem i j a r k p h =
      let after-it : Rising (suc a.1) r.0 k = rising_wide r.0 (suc a.1) j k k (omega (arith, p.1)) (omega arith) h.1 in
      (omega (arith, h.0, p), (omega (arith, p.0), omega (arith, h.0, p.1), after-it))

  pieces_rise : (n : ℕ) (x : Stage) (i : ℕ) → Upto (Rises i) (chain_in n (more m) end x s i)
  unfolding chain_in
  pieces_rise zero x i = tt
  pieces_rise (suc n) x i = go (λ y j. pieces_rise n y j) (more m x s i) refl (more_inside m s x i)
    where
      go : ((y : Stage) (j : ℕ) → Upto (Rises j) (chain_in n (more m) end y s j)) → (r : Read (Placed × Stage)) → more m x s i ≡ r → Upto (Next i) r →
          Upto (Rises i) (follow s i r (λ c. map (before c.0) (chain_in n (more m) end c.1)) (map last (end x)))
      go later (got c j) e p =
          let rest = chain_in n (more m) end c.1 s j in
          let with_it = upto_less (Rises j) (λ r k. Rises i (before c.0 r) k) (λ r k h. with_item_lem i j c.0 r k p h) rest (later c.1 j) in
          upto_map (Rises i) s j (before c.0) rest with_it
      go later none e p = upto_then (Rises i) s i _ (end x s i) (λ b j f. (omega (arith, (past (end_local x) f).moves), tt))
      go later (refused k q) e p = tt

  after_rises : (i separator : ℕ) (o : Opening) (j : ℕ) → i ≤ j → Upto (RuleRises i) (after_opening m i separator o s j)
  unfolding after_opening chain
  after_rises i separator o j h =
      let n = suc (length s) in
      let pieces = chain_in n (more m) end o.stage s j in
      let as-rule = rule_of i separator o.comment in
      let its-items = upto_less (Rises j) (λ r k. RuleRises i (as-rule r) k) (λ r k g. (refl, rising_wide r.0 i j k k h (omega arith) g.1)) pieces (pieces_rise n o.stage j) in
      upto_map (RuleRises i) s j as-rule pieces its-items

  rule_rises : (separator i : ℕ) → Upto (RuleRises i) (rule m separator s i)
  unfolding rule
  rule_rises separator i = upto_then _ s i (after_opening m i separator) (opening s i) (λ o j e. after_rises i separator o j (omega (arith, (past opening_local e).moves)))

pub places_rise : PlacesRise
places_rise m separator s i j r e =
    let h = subst (Upto (RuleRises i)) e (rule_rises m s separator i) in
    (h.0, h.1, (past_one (rule_local m separator) e).1)
