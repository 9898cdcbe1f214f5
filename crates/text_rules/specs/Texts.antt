-- The rules of a text, left to right, and their records (docs/RULES.md, 1).
use Rattle.std.specs.Prelude.{ℕ, ◌+◌, List, [], ◌∷◌, ◌++◌, map, ℤ}
use Rattle.names.specs.declared.Manner.{Manner}
use Rattle.names.specs.Read.{Reader, nothing, pure, refuse, ◌>>=◌, ◌>>◌}
use Rattle.names.specs.Chain.{chain}
use Rattle.names.specs.Texts.{blanks}
use Rattle.items.specs.Musts.{must}
use Rattle.rules.specs.Separators.{next}
use Rattle.rules.specs.Rules.{Rule, rule}
use Rattle.std.specs.Prelude.{Option, Some, None}
use Rattle.house.specs.Breaks.{judged_by, rules_break}
use Rattle.house.specs.Spans.{Break}
use Rattle.names.specs.Refusals.{number}
use Rattle.records.specs.Words.{head_words, item_record}

-- the blanks after a rule, and what parts it from the next
abbrev pub after_rule : {A : Type 0} → A → Reader (A × Option ℕ)
after_rule r = do
  blanks
  n ← must next
  pure (r, n)

-- a rule, and what parts it from the next
unfoldable pub parted : Manner → ℕ → Reader (Rule × Option ℕ)
parted m separator = do
  r ← rule m separator
  after_rule r

-- a rule of a text: "rule" is the place where the blanks before it end
unfoldable pub more_rules : Manner → Option ℕ → Reader (Rule × Option ℕ)
more_rules m (Some separator) = do
  blanks
  parted m separator
more_rules m None = nothing

-- there are no more rules where the text has ended
unfoldable pub no_more : Option ℕ → Reader (Unit {0})
no_more (Some separator) = nothing
no_more None = pure tt

-- the rules of a text: the first has the separator 0
unfoldable pub rules : Manner → Reader (List Rule × Unit {0})
rules m = chain (more_rules m) no_more (Some 0)

-- what the first break of the house profile comes to: it refuses, and where there is none the value stays
abbrev pub unbroken : {A : Type 0} → A → Break → Reader A
unbroken a None = pure a
unbroken a (Some r) = refuse (number r.reason) r.place

-- the rules of a text, a house sheet's judged when all are read
unfoldable pub judged_rules : Manner → Reader (List Rule × Unit {0})
judged_rules m = do
  l ← rules m
  unbroken l (judged_by m (rules_break l.0))

-- a rule's records: its head comes first, then its items in reading order
abbrev pub rule_records : Rule → List (List ℤ)
rule_records r = head_words r.0 ∷ map item_record r.1

-- the records of rules
unfoldable pub records : List Rule → List (List ℤ)
records [] = []
records (r ∷ rs) = rule_records r ++ records rs

-- the warnings of rules
unfoldable pub warnings : List Rule → ℕ
warnings [] = 0
warnings (r ∷ rs) = r.0.warnings + warnings rs
