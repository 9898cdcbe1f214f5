-- The rules of a text that are judged: an edition's are those that were read; a house sheet's are, or else their first break refuses.
use Rattle.std.specs.Prelude.{None, Some}
use Rattle.std.specs.Prelude.{if◌then◌else◌}
use Prim.Native.Nat.{ℕ, ◌+◌, ◌<◌}
use mathlib.Core.Bool.{Bool, true, false}
use mathlib.Core.List.{List, [], ◌∷◌, ◌++◌, map}
use mathlib.Core.Logic.{◌⊎◌, inl, inr}
use mathlib.Core.Path.{◌≡◌, refl, sym, ap, ◌∙◌}
use native.Mathlib.Omega.{arith}
use lib.Dec.{eqb}
use lib.ListN.{length}
use Rattle.names.specs.Read.{Read, got, none, refused, follow, nothing}
use Rattle.names.specs.Refusals.{house_form, house_order}
use Rattle.names.specs.declared.Manner.{Manner}
use Rattle.names.specs.declared.Manner.TheVariants.{First, Second, House}
use Rattle.names.proofs.Local.{Number, Near, moved}
use Rattle.records.specs.declared.Item.{Item}
use Rattle.records.specs.declared.Item.TheVariants.{Years, Months, Dates, Weeks, Weekdays, Holidays, Times}
use Rattle.records.specs.Words.{Placed}
use Rattle.items.proofs.Cut.{placed_moves}
use Rattle.rules.specs.Rules.{Rule}
use Rattle.rules.proofs.Cut.{rule_moves}
use Rattle.house.specs.Spans.{allowed, in_order, span_break_as}
use Rattle.house.specs.Breaks.{first_of, item_break, end_with, items_break, separator_break, rule_break, rules_break, judged_by}
use Rattle.house.specs.Profile.{Each}
use Rattle.house.specs.Spans.{Break, at}
use Rattle.names.specs.Refusals.{number}
use Rattle.names.specs.declared.refusals.Reason.TheVariants.{HouseForm, HouseOrder}
use Rattle.house.proofs.Laws.{first_assoc}
use Rattle.house.proofs.Places.{Broken, OfItem, more_broken, none_broken}
use Rattle.text_rules.specs.Texts.{rules, unbroken, judged_rules}
use Rattle.text_rules.proofs.Moves.{rules_move, rules_ended, rules_move_lem}

-- what the rules of a text are read as
abbrev pub Rules : Type 0
Rules = Read (List Rule × Unit {0})

-- rules with this first break
abbrev pub settled : List Rule × Unit {0} → ℕ → Break → Rules
settled l j None = got l j
settled l j (Some r) = refused (number r.reason) r.place

-- what was read, judged
abbrev pub judged : Manner → Rules → Rules
judged m (got l j) = settled l j (judged_by m (rules_break l.0))
judged m none = none
judged m (refused k p) = refused k p

pub judged_is : (m : Manner) (s : List ℕ) (p : ℕ) → judged_rules m s p ≡ judged m (rules m s p)
unfolding judged_rules
judged_is m s p = go (rules m s p)
  where
    one : (l : List Rule × Unit {0}) (j : ℕ) (b : Break) → unbroken l b s j ≡ settled l j b
    one l j None = refl
    one l j (Some r) = refl

    go : (x : Rules) → follow s p x (λ l. unbroken l (judged_by m (rules_break l.0))) nothing ≡ judged m x
    go (got l j) = one l j (judged_by m (rules_break l.0))
    go none = refl
    go (refused k q) = refl

-- ---- the editions

pub judged_edition : (m : Manner) → ((b : Break) → judged_by m b ≡ None) → (x : Rules) → judged m x ≡ x
judged_edition m h (got l j) = ap (settled l j) (h (rules_break l.0))
judged_edition m h none = refl
judged_edition m h (refused k p) = refl

-- an edition's rules are not judged
pub first_rules : (s : List ℕ) (p : ℕ) → judged_rules First s p ≡ rules First s p
first_rules s p = judged_is First s p ∙ judged_edition First (λ b. refl) (rules First s p)

pub second_rules : (s : List ℕ) (p : ℕ) → judged_rules Second s p ≡ rules Second s p
second_rules s p = judged_is Second s p ∙ judged_edition Second (λ b. refl) (rules Second s p)

-- ---- numbers

-- the numbers that a text is refused by in a manner
abbrev pub NumberIn : Manner → ℕ → Type 0
NumberIn First k = Number First k
NumberIn Second k = Number Second k
NumberIn House k = Number House k ⊎ ((k ≡ house_form) ⊎ (k ≡ house_order))

-- they are not 0
pub number_positive : (m : Manner) {k : ℕ} → NumberIn m k → 0 < k
number_positive First h = h.0
number_positive Second h = h.0
number_positive House (inl h) = h.0
number_positive House (inr (inl h)) = omega arith
number_positive House (inr (inr h)) = omega arith

-- those of the rules are among them
number_read : (m : Manner) {k : ℕ} → Number m k → NumberIn m k
number_read First h = h
number_read Second h = h
number_read House h = inl h

-- and the profile's two in a house sheet
abbrev HouseNumber : ℕ → ℕ → Type 0
HouseNumber k p = (k ≡ house_form) ⊎ (k ≡ house_order)

items_numbered : (l : List Placed) → Each (OfItem HouseNumber) l
items_numbered [] = tt
items_numbered (a ∷ l) = ((inl refl, inr refl), items_numbered l)

rules_numbered : (l : List Rule) → Broken HouseNumber (rules_break l)
rules_numbered [] = none_broken HouseNumber
rules_numbered (r ∷ l) = more_broken HouseNumber r l (inl refl, items_numbered r.1) (rules_numbered l)

break_numbered : (m : Manner) (l : List Rule) → Broken (λ k p. NumberIn m k) (judged_by m (rules_break l))
break_numbered First l = tt
break_numbered Second l = tt
break_numbered House l = go (rules_break l) (rules_numbered l)
  where
    go : (b : Break) → Broken HouseNumber b → Broken (λ k p. NumberIn House k) b
    go None h = tt
    go (Some r) h = inr h

-- a refusal has one of them
abbrev pub Numbered : Manner → Rules → Type 0
Numbered m (got l j) = Unit {0}
Numbered m none = Unit {0}
Numbered m (refused k p) = NumberIn m k

settled_numbered : (m : Manner) (l : List Rule × Unit {0}) (j : ℕ) (b : Break) → Broken (λ k p. NumberIn m k) b → Numbered m (settled l j b)
settled_numbered m l j None h = tt
settled_numbered m l j (Some r) h = h

pub rules_number : (m : Manner) (s : List ℕ) (p : ℕ) → Numbered m (rules m s p)
rules_number m s p = go _ (rules m s p) ((rules_ended m []).near s p (omega arith))
  where
    go : (n : ℕ) (x : Rules) → Near m n x → Numbered m x
    go n (got l j) h = tt
    go n none h = tt
    go n (refused k q) h = number_read m h.0

pub judged_numbered : (m : Manner) (x : Rules) → Numbered m x → Numbered m (judged m x)
judged_numbered m (got l j) h = settled_numbered m l j (judged_by m (rules_break l.0)) (break_numbered m l.0)
judged_numbered m none h = tt
judged_numbered m (refused k p) h = h

pub judged_number : (m : Manner) (s : List ℕ) (p : ℕ) → Numbered m (judged_rules m s p)
judged_number m s p = rw (judged_is m s p) (judged_numbered m (rules m s p) (rules_number m s p))

-- ---- moves

-- a break moves with its text
abbrev break_moves : ℕ → Break → Break
break_moves d None = None
break_moves d (Some r) = at r.reason (d + r.place)

first_moves : (d : ℕ) (a b : Break) → first_of (break_moves d a) (break_moves d b) ≡ break_moves d (first_of a b)
first_moves d None b = refl
first_moves d (Some r) b = refl

item_break_moves : (d end : ℕ) (a : Item) (p : ℕ) → item_break end (a, d + p) ≡ break_moves d (item_break end (a, p))
unfolding span_break_as
item_break_moves d end (Years r) p = refl
item_break_moves d end (Months r) p = refl
item_break_moves d end (Dates r) p = refl
item_break_moves d end (Weeks r) p = refl
item_break_moves d end (Weekdays r) p = refl
item_break_moves d end (Holidays r) p = refl
item_break_moves d end (Times x) p = go (allowed x) (in_order end x)
  where
    go : (a b : Bool) → (if a then (if b then None else at HouseOrder (d + p)) else at HouseForm (d + p)) ≡ break_moves d (if a then (if b then None else at HouseOrder p) else at HouseForm p)
    go true true = refl
    go true false = refl
    go false b = refl

items_break_moves : (d end : ℕ) (l : List Placed) → items_break end (map (placed_moves d) l) ≡ break_moves d (items_break end l)
unfolding items_break
items_break_moves d end [] = refl
items_break_moves d end (a ∷ l) = rw (item_break_moves d end a.0 a.1, items_break_moves d (end_with end a.0) l) (first_moves d (item_break end a) (items_break (end_with end a.0) l))

separator_break_moves : (d k p : ℕ) → separator_break k (d + p) ≡ break_moves d (separator_break k p)
unfolding separator_break
separator_break_moves d k p = go (eqb k 0)
  where
    go : (a : Bool) → (if a then None else at HouseForm (d + p)) ≡ break_moves d (if a then None else at HouseForm p)
    go true = refl
    go false = refl

rule_break_moves : (d : ℕ) (r : Rule) → rule_break (rule_moves d r) ≡ break_moves d (rule_break r)
rule_break_moves d r = rw (separator_break_moves d r.0.separator r.0.place, items_break_moves d 0 r.1) (first_moves d (separator_break r.0.separator r.0.place) (items_break 0 r.1))

rules_break_moves : (d : ℕ) (l : List Rule) → rules_break (map (rule_moves d) l) ≡ break_moves d (rules_break l)
unfolding rules_break
rules_break_moves d [] = refl
rules_break_moves d (r ∷ l) = rw (rule_break_moves d r, rules_break_moves d l) (first_moves d (rule_break r) (rules_break l))

judged_break_moves : (m : Manner) (d : ℕ) (b : Break) → judged_by m (break_moves d b) ≡ break_moves d (judged_by m b)
judged_break_moves First d b = refl
judged_break_moves Second d b = refl
judged_break_moves House d b = refl

settled_moves : (d : ℕ) (l : List Rule × Unit {0}) (j : ℕ) (b : Break) → settled (rules_move d l) (d + j) (break_moves d b) ≡ moved rules_move d (settled l j b)
settled_moves d l j None = refl
settled_moves d l j (Some r) = refl

-- what was read and moves is judged so
judged_moves : (m : Manner) (d : ℕ) (x : Rules) → judged m (moved rules_move d x) ≡ moved rules_move d (judged m x)
judged_moves m d (got l j) = rw (rules_break_moves d l.0, judged_break_moves m d (rules_break l.0)) (settled_moves d l j (judged_by m (rules_break l.0)))
judged_moves m d none = refl
judged_moves m d (refused k p) = refl

-- the move law of the rules that are judged
pub judged_move : (m : Manner) (u s : List ℕ) (i : ℕ) → judged_rules m (u ++ s) (length u + i) ≡ moved rules_move (length u) (judged_rules m s i)
judged_move m u s i =
    judged_is m (u ++ s) (length u + i) ∙ ap (judged m) (rules_move_lem m u s i) ∙ judged_moves m (length u) (rules m s i) ∙ ap (moved rules_move (length u)) (sym (judged_is m s i))

-- ---- two lists of rules

break_append : (l k : List Rule) → rules_break (l ++ k) ≡ first_of (rules_break l) (rules_break k)
unfolding rules_break
break_append [] k = refl
break_append (r ∷ l) k = rw (break_append l k) (sym (first_assoc (rule_break r) (rules_break l) (rules_break k)))

-- the first break of both is that of the first, or else of the second
pub judged_append : (m : Manner) (l k : List Rule) → judged_by m (rules_break (l ++ k)) ≡ first_of (judged_by m (rules_break l)) (judged_by m (rules_break k))
judged_append First l k = refl
judged_append Second l k = refl
judged_append House l k = break_append l k
