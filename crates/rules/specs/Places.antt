-- The places of a rule and of its items (docs/RULES.md, 5).
use Rattle.std.specs.Prelude.{ℕ, suc, ◌≤◌, ◌<◌, List, [], ◌∷◌, ◌≡◌, length}
use Rattle.names.specs.Read.{got}
use Rattle.names.specs.declared.Manner.{Manner}
use Rattle.records.specs.Words.{Placed}
use Rattle.rules.specs.Rules.{Rule, rule}

-- items whose places rise, from i on and before k
abbrev pub Rising : ℕ → List Placed → ℕ → Type 0
Rising i [] k = Unit {0}
Rising i (a ∷ l) k = (i ≤ a.1) × (a.1 < k) × Rising (suc a.1) l k

-- a rule's place is where it begins; its items' places rise strictly from there on, and each is a place of the rule and so of the text
abbrev pub PlacesRise : Type 0
PlacesRise = (m : Manner) (separator : ℕ) (s : List ℕ) (i j : ℕ) (r : Rule) → rule m separator s i ≡ got r j → (r.0.place ≡ i) × Rising i r.1 j × (j ≤ length s)
