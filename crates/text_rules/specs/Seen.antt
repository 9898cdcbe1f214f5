-- What an answer of the code says, in the definitions' terms.
use Rattle.std.specs.Prelude.{ℕ, List, Option, Result, ◌≡◌}
use Rattle.names.specs.Read.{Read}
use Rattle.names.specs.Seen.{seen_certain}
use Rattle.names.specs.declared.Cursor.{Cursor}
use Rattle.names.specs.declared.refusals.Reason.{Reason}
use Rattle.names.specs.declared.refusals.Refusal.{Refusal}
use Rattle.lent_slots.specs.Tables.{Tables}
use Rattle.house.specs.Spans.{Break}
use Rattle.text_rules.specs.Texts.{unbroken}
use Rattle.text_rules.specs.Into.{Known, Totals}
use Rattle.text_rules.specs.declared.Known.{Known as KnownRule}
use Rattle.text_rules.specs.declared.Counted.{Counted}

-- how many items a rule has, how many warnings, and its first break
abbrev pub known : KnownRule → Known
known r = (r.items, r.warnings, r.first)

-- this of a rule, and the place after it
abbrev pub seen_rule : Result (KnownRule × Cursor) (Refusal Reason) → Read Known
seen_rule = seen_certain known

-- what parts a rule from the next, whatever the rule is
abbrev pub seen_parted : Result (Option ℕ × Cursor) (Refusal Reason) → Read (Unit {0} × Option ℕ)
seen_parted = seen_certain (λ next. (tt, next))

-- the same of a rule, and the tables afterwards
abbrev pub seen_rule_into : Result (KnownRule × Cursor) (Refusal Reason) → Tables → Read (Known × Tables)
seen_rule_into r t = seen_certain (λ k. (known k, t)) r

-- how many records the rules of a text have, how many warnings, and the tables afterwards
abbrev pub seen_rules_into : Result (Counted × Cursor) (Refusal Reason) → Tables → Read Totals
seen_rules_into r t = seen_certain (λ n. (n.records, n.warnings, t)) r

-- what rules with n records, so many warnings and this first break, up to the place i, come to
abbrev pub ComesTo : ℕ → ℕ → Break → ℕ → Result (Counted × Cursor) (Refusal Reason) → Type 0
ComesTo n warned first i r = (s : List ℕ) (t : Tables) → unbroken (n, warned, t) first s i ≡ seen_rules_into r t
