-- However undecided items are decided, a yes or a no stays.
use Prim.Native.Nat.{ℕ}
use mathlib.Core.List.{List, [], ◌∷◌}
use mathlib.Core.Path.{◌≡◌, refl, ap, ◌∙◌}
use native.Mathlib.Omega.{arith}
use Rattle.records.specs.declared.Item.{Item}
use Rattle.almanac.specs.declared.OnDay.{OnDay}
use Rattle.touched.specs.Touches.{best, worst}
use Rattle.touched.specs.Selectors.{touch}
use Rattle.touched.specs.Kinds.{of_kind, best_by, kind_by, rule_by, rule_touch}
use Rattle.touched.specs.Deciding.{ComesTo, Decision, Stays, Opens}
use Rattle.touched.specs.declared.Touch.{Touch}
use Rattle.touched.specs.declared.Touch.TheVariants.{No, Undecided, Yes}

-- the same, by cases
abbrev Firm : Touch → Touch → Type 0
Firm No u = u ≡ No
Firm Undecided u = Unit {0}
Firm Yes u = u ≡ Yes

pub no_not : No ≡ Undecided → ⊥
no_not e = let z : ◌≡◌ {A = ℕ} 0 1 = cc in omega arith

pub yes_not : Yes ≡ Undecided → ⊥
yes_not e = let z : ◌≡◌ {A = ℕ} 0 1 = cc in omega arith

firm : (t u : Touch) → ComesTo t u → Firm t u
firm No u h = h no_not
firm Undecided u h = tt
firm Yes u h = h yes_not

stay : (t u : Touch) → Firm t u → ComesTo t u
stay No u h k = h
stay Undecided u h k = absurd (k refl)
stay Yes u h k = h

-- best and worst, the other way round
pub best_yes : (b : Touch) → best b Yes ≡ Yes
best_yes No = refl
best_yes Undecided = refl
best_yes Yes = refl

pub best_no : (b : Touch) → best b No ≡ b
best_no No = refl
best_no Undecided = refl
best_no Yes = refl

worst_no : (b : Touch) → worst b No ≡ No
worst_no No = refl
worst_no Undecided = refl
worst_no Yes = refl

best_firm : (a b c d : Touch) → Firm a b → Firm c d → Firm (best a c) (best b d)
best_firm No b c d p q = rw p q
best_firm Undecided b No d p q = tt
best_firm Undecided b Undecided d p q = tt
best_firm Undecided b Yes d p q = rw q (best_yes b)
best_firm Yes b c d p q = rw p

worst_firm : (a b c d : Touch) → Firm a b → Firm c d → Firm (worst a c) (worst b d)
worst_firm No b c d p q = rw p
worst_firm Undecided b No d p q = rw q (worst_no b)
worst_firm Undecided b Undecided d p q = tt
worst_firm Undecided b Yes d p q = tt
worst_firm Yes b c d p q = rw p q

module _ (f g : Item → Touch) (h : (a : Item) → Firm (f a) (g a)) where
  best_by_lem : (l : List Item) → Firm (best_by f l) (best_by g l)
  unfolding best_by
  best_by_lem [] = refl
  best_by_lem (a ∷ l) = best_firm (f a) (g a) (best_by f l) (best_by g l) (h a) (best_by_lem l)

  kind_by_lem : (l : List Item) → Firm (kind_by f l) (kind_by g l)
  kind_by_lem [] = refl
  kind_by_lem (a ∷ l) = best_by_lem (a ∷ l)

  two : (x : Touch) (y : Touch) (l : List Item) → Firm x y → Firm (worst (kind_by f l) x) (worst (kind_by g l) y)
  two x y l p = worst_firm (kind_by f l) (kind_by g l) x y (kind_by_lem l) p

  rule_by_lem : (l : List Item) → Firm (rule_by f l) (rule_by g l)
  unfolding rule_by
  rule_by_lem l = two _ _ (of_kind 1 l) (two _ _ (of_kind 2 l) (two _ _ (of_kind 3 l) (kind_by_lem (of_kind 4 l))))

pub stays : Stays
stays d l g h = stay (rule_touch d l) (rule_by g l) (rule_by_lem (touch d) g (λ a. firm (touch d a) (g a) (h a)) l)

-- ---- an undecided rule may come to either

-- what is undecided becomes u
settle : Touch → Touch → Touch
settle u No = No
settle u Undecided = u
settle u Yes = Yes

settled : (u t : Touch) → (u ≡ Undecided → ⊥) → ComesTo t (settle u t) × (settle u t ≡ Undecided → ⊥)
unfolding settle
settled u No h = (λ k. refl, no_not)
settled u Undecided h = (λ k. absurd (k refl), h)
settled u Yes h = (λ k. refl, yes_not)

best_same : (b : Touch) → best b b ≡ b
best_same No = refl
best_same Undecided = refl
best_same Yes = refl

worst_same : (b : Touch) → worst b b ≡ b
worst_same No = refl
worst_same Undecided = refl
worst_same Yes = refl

worst_yes : (b : Touch) → worst b Yes ≡ b
worst_yes No = refl
worst_yes Undecided = refl
worst_yes Yes = refl

module _ (u : Touch) where
  settle_best : (a b : Touch) → best (settle u a) (settle u b) ≡ settle u (best a b)
  unfolding settle
  settle_best No b = refl
  settle_best Undecided No = best_no u
  settle_best Undecided Undecided = best_same u
  settle_best Undecided Yes = best_yes u
  settle_best Yes b = refl

  settle_worst : (a b : Touch) → worst (settle u a) (settle u b) ≡ settle u (worst a b)
  unfolding settle
  settle_worst No b = refl
  settle_worst Undecided No = worst_no u
  settle_worst Undecided Undecided = worst_same u
  settle_worst Undecided Yes = worst_yes u
  settle_worst Yes b = refl

  -- every item settled is the rule settled
  module _ (f : Item → Touch) where
    settle_items : (l : List Item) → best_by (λ a. settle u (f a)) l ≡ settle u (best_by f l)
    unfolding settle best_by
    settle_items [] = refl
    settle_items (a ∷ l) = ap (best (settle u (f a))) (settle_items l) ∙ settle_best (f a) (best_by f l)

    settle_kind : (l : List Item) → kind_by (λ a. settle u (f a)) l ≡ settle u (kind_by f l)
    unfolding settle
    settle_kind [] = refl
    settle_kind (a ∷ l) = settle_items (a ∷ l)

    settle_two : (l : List Item) (x y : Touch) → x ≡ settle u y → worst (kind_by (λ a. settle u (f a)) l) x ≡ settle u (worst (kind_by f l) y)
    settle_two l x y e = rw (settle_kind l, e) (settle_worst (kind_by f l) y)

    settle_rule : (l : List Item) → rule_by (λ a. settle u (f a)) l ≡ settle u (rule_by f l)
    unfolding rule_by
    settle_rule l = settle_two (of_kind 1 l) _ _ (settle_two (of_kind 2 l) _ _ (settle_two (of_kind 3 l) _ _ (settle_kind (of_kind 4 l))))

  by : (u ≡ Undecided → ⊥) → (d : OnDay) (l : List Item) → rule_touch d l ≡ Undecided → (g : Item → Touch) × Decision (touch d) g × (rule_by g l ≡ u)
  unfolding settle
  by n d l e = (λ a. settle u (touch d a), record { keeps = λ a. (settled u (touch d a) n).0; decides = λ a. (settled u (touch d a) n).1 }, settle_rule (touch d) l ∙ ap (settle u) e)

pub opens : Opens
opens d l e = record { yes_by = by Yes yes_not d l e; no_by = by No no_not d l e }
