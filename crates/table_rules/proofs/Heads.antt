-- The rules of a table from a slot on: at its end, at a head, and at an item.
use Rattle.std.specs.Prelude.{if◌then◌else◌}
use Prim.Native.Nat.{ℕ, zero, suc, ◌+◌, ◌-◌, ◌/◌, ◌≤◌, ◌<◌}
use native.Mathlib.Nat.{div-add-mod', sub-zero}
use native.Mathlib.Numerals.{add-one}
use native.Mathlib.Omega.{arith}
use borrow.Author.Tests.{eqb-false, not-true}
use lib.Dec.{eqb}
use lib.ListN.{length}
use mathlib.Core.Bool.{Bool, true, false, ◌&&◌, not}
use mathlib.Core.List.{List, [], ◌∷◌}
use mathlib.Core.Option.{none, some}
use mathlib.Core.Path.{◌≡◌, refl, sym, ap, ◌∙◌}
use lib.IntN.{ℤ}
use Rattle.lent_slots.specs.Tables.{Tables}
use Rattle.records.specs.declared.Item.{Item}
use Rattle.records.specs.Told.{candidate}
use Rattle.tables.specs.Tables.{is_head, cut, rules_fit, records_fit, table_fits}
use Rattle.lent_slots.specs.Slots.{is_words, slots, record_at, records_from, records_of, is_whole}
use Rattle.lent_slots.proofs.SlotLaws.{slot_next, slot_end}
use Rattle.table_rules.specs.Rules.{Rule, rules_from, rules_in, rule_at, items_up, rules_up, rule_of, IsFirstHead}

-- a table has at most 2 ^ 60 slots
pub few_slots : (t : Tables) → length t.0 < 18446744073709551616 → length t.1 < 18446744073709551616 → slots t ≤ 1152921504606846976
unfolding slots
few_slots t a b = go (is_words t)
  where
    go : (x : Bool) → (if x then length t.0 / 16 else length t.1 / 64) ≤ 1152921504606846976
    go true = omega (arith, div-add-mod' (length t.0) 16)
    go false = omega (arith, div-add-mod' (length t.1) 64)

-- the rules of a table are those from its first slot on
pub rules_all : (t : Tables) → rules_up t 0 ≡ rules_in t
unfolding rules_up
rules_all t = ap (λ n. (rules_from 0 (records_from t n 0)).1) (sub-zero (slots t))

-- a record before others
head_first : (k : ℕ) (w : List ℤ) (ws : List (List ℤ)) → is_head w ≡ true → rules_from k (w ∷ ws) ≡ ([], record { head = k; items = (rules_from (suc k) ws).0 } ∷ (rules_from (suc k) ws).1)
unfolding rules_from
head_first k w ws e = rw e

item_first : (k : ℕ) (w : List ℤ) (ws : List (List ℤ)) → is_head w ≡ false → rules_from k (w ∷ ws) ≡ (candidate w ∷ (rules_from (suc k) ws).0, (rules_from (suc k) ws).1)
unfolding rules_from
item_first k w ws e = rw e

module _ (t : Tables) (k : ℕ) where
  slot_on : k < slots t → records_from t (slots t - k) k ≡ record_at t k ∷ records_from t (slots t - suc k) (suc k)
  slot_on h = slot_next t (slots t) k h ∙ ap (λ n. record_at t k ∷ records_from t (slots t - n) n) (add-one k)

  at_end_lem : slots t ≤ k → rules_from k (records_from t (slots t - k) k) ≡ ([], [])
  unfolding rules_from
  at_end_lem h = ap (rules_from k) (slot_end t (slots t) k h)

  -- past the last slot there is nothing
  pub items_end : slots t ≤ k → items_up t k ≡ []
  unfolding items_up
  items_end h = ap (λ (p : List Item × List Rule). p.0) (at_end_lem h)

  pub rules_end : slots t ≤ k → rules_up t k ≡ []
  unfolding rules_up
  rules_end h = ap (λ (p : List Item × List Rule). p.1) (at_end_lem h)

  module _ (h : k < slots t) where
    at_head : is_head (record_at t k) ≡ true → rules_from k (records_from t (slots t - k) k) ≡ ([], rule_of t k ∷ rules_up t (suc k))
    unfolding items_up rules_up
    at_head e = ap (rules_from k) (slot_on h) ∙ head_first k (record_at t k) (records_from t (slots t - suc k) (suc k)) e

    -- a head begins a rule
    pub items_head : is_head (record_at t k) ≡ true → items_up t k ≡ []
    unfolding items_up
    items_head e = ap (λ (p : List Item × List Rule). p.0) (at_head e)

    pub rules_head : is_head (record_at t k) ≡ true → rules_up t k ≡ rule_of t k ∷ rules_up t (suc k)
    unfolding rules_up
    rules_head e = ap (λ (p : List Item × List Rule). p.1) (at_head e)

    at_item : is_head (record_at t k) ≡ false → rules_from k (records_from t (slots t - k) k) ≡ (candidate (record_at t k) ∷ items_up t (suc k), rules_up t (suc k))
    unfolding items_up rules_up
    at_item e = ap (rules_from k) (slot_on h) ∙ item_first k (record_at t k) (records_from t (slots t - suc k) (suc k)) e

    -- an item is of the rule before it
    pub items_item : is_head (record_at t k) ≡ false → items_up t k ≡ candidate (record_at t k) ∷ items_up t (suc k)
    unfolding items_up
    items_item e = ap (λ (p : List Item × List Rule). p.0) (at_item e)

    pub rules_item : is_head (record_at t k) ≡ false → rules_up t k ≡ rules_up t (suc k)
    unfolding rules_up
    rules_item e = ap (λ (p : List Item × List Rule). p.1) (at_item e)

-- the same at the place after a slot, as the code counts
module _ (t : Tables) (k : ℕ) where
  pub rules_after_head : k < slots t → is_head (record_at t k) ≡ true → rules_up t k ≡ rule_of t k ∷ rules_up t (k + 1)
  rules_after_head h e = rw (add-one k) (rules_head t k h e)

  pub rules_after_item : k < slots t → is_head (record_at t k) ≡ false → rules_up t k ≡ rules_up t (k + 1)
  rules_after_item h e = rw (add-one k) (rules_item t k h e)

-- the rules from a slot on where the first head is known
pub next_rules : (t : Tables) (j k : ℕ) → IsFirstHead t j k → rules_up t j ≡ record { head = k; items = items_up t (k + 1) } ∷ rules_up t (k + 1)
next_rules t j k h = h.same ∙ rules_after_head t k h.within h.is_head_lem ∙ rw (add-one k)

pub no_rule : (j : ℕ) → rule_at j [] ≡ none
unfolding rule_at
no_rule zero = refl
no_rule (suc j) = refl

later_rule : (j : ℕ) (r : Rule) (rs : List Rule) → rule_at (suc j) (r ∷ rs) ≡ rule_at j rs
unfolding rule_at
later_rule j r rs = refl

first_rule_lem : (t : Tables) (k : ℕ) (rs : List Rule) → rule_at 0 (rule_of t k ∷ rs) ≡ some (record { head = k + 1 - 1; items = items_up t (k + 1) })
unfolding rule_at
first_rule_lem t k rs = let e : k + 1 - 1 ≡ k = omega arith in rw (e, add-one k)

-- at a head, the rule numbered n where i rules are passed
module _ (t : Tables) (k : ℕ) (h : k < slots t) (e : is_head (record_at t k) ≡ true) where
  pub rule_there : (n i : ℕ) → n ≤ i → rule_at (n - i) (rules_up t k) ≡ some (record { head = k + 1 - 1; items = items_up t (k + 1) })
  rule_there n i l = let z : n - i ≡ 0 = omega arith in rw (z, rules_after_head t k h e) (first_rule_lem t k (rules_up t (k + 1)))

  pub rule_later : (n i : ℕ) → i < n → rule_at (n - i) (rules_up t k) ≡ rule_at (n - (i + 1)) (rules_up t (k + 1))
  rule_later n i l = let z : n - i ≡ suc (n - (i + 1)) = omega arith in rw (z, rules_after_head t k h e) (later_rule (n - (i + 1)) (rule_of t k) (rules_up t (k + 1)))

-- ---- a table that fits has a rule

before_more : (k : ℕ) (w : List ℤ) (ws : List (List ℤ)) (t : Bool) → is_head w ≡ t → length (rules_from (suc k) ws).1 ≡ length (cut ws).1 → length (rules_from k (w ∷ ws)).1 ≡ length (cut (w ∷ ws)).1
unfolding rules_from cut
before_more k w ws true e h = rw e (ap suc h)
before_more k w ws false e h = rw e h

-- there are as many rules as the records are cut into
cut_rules : (k : ℕ) (ws : List (List ℤ)) → length (rules_from k ws).1 ≡ length (cut ws).1
unfolding rules_from cut
cut_rules k [] = refl
cut_rules k (w ∷ ws) = before_more k w ws (is_head w) refl (cut_rules (suc k) ws)

and_left : (a b : Bool) → (a && b) ≡ true → a ≡ true
and_left true b e = refl
and_left false b e = e

and_right : (a b : Bool) → (a && b) ≡ true → b ≡ true
and_right true b e = e
and_right false true e = refl
and_right false false e = e

pub fits_rule : (t : Tables) → table_fits t ≡ true → 1 ≤ length (rules_in t)
unfolding table_fits records_fit
fits_rule t e =
    let ws = records_of t in
    let f = and_right (is_whole t) (records_fit ws) e in
    let g = and_left (not (eqb (length (cut ws).1) 0)) (rules_fit (cut ws).1) (and_right (eqb (length (cut ws).0) 0) (not (eqb (length (cut ws).1) 0) && rules_fit (cut ws).1) f) in
    let h = eqb-false (length (cut ws).1) 0 (not-true (eqb (length (cut ws).1) 0) g) in
    let q : length (rules_in t) ≡ length (cut ws).1 = cut_rules 0 ws in
    more (length (rules_in t)) (λ z. h (sym q ∙ z))
  where
    more : (n : ℕ) → (n ≡ 0 → ⊥) → 1 ≤ n
    more n h = omega arith

pub ruleset head_steps = (rules_all, rules_end, rules_after_head, rules_after_item)

pub ruleset rule_steps = (rules_all, no_rule, rule_there, rule_later)
