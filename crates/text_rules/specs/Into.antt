-- What is read into a table of words and one of bytes: each of them has the records whose slots it has.
use Rattle.std.specs.Prelude.{ℕ, List, ℤ, length}
use Rattle.names.specs.Read.{Reader, map}
use Rattle.names.specs.declared.Manner.{Manner}
use Rattle.lent_slots.specs.Tables.{Tables, all_kept}
use Rattle.rules.specs.Rules.{Rule, rule}
use Rattle.house.specs.Breaks.{rule_break, judged_by}
use Rattle.house.specs.Spans.{Break}
use Rattle.text_rules.specs.Texts.{judged_rules, rule_records, records, warnings}

-- what is known of a rule: how many items it has, how many warnings, and its first break
abbrev pub Known : Type 0
Known = ℕ × ℕ × Break

abbrev pub known_of : Manner → Rule → Known
known_of m r = (length r.1, r.0.warnings, judged_by m (rule_break r))

-- this, and the tables with the rule's records from slot k on
abbrev pub rule_into : Manner → Tables → ℕ → ℕ → Reader (Known × Tables)
rule_into m t k separator = map (λ r. (known_of m r, all_kept t k (rule_records r))) (rule m separator)

-- how many records the rules of a text have, how many warnings, and the tables with the records
abbrev pub Totals : Type 0
Totals = ℕ × ℕ × Tables

abbrev pub rules_into : Manner → Tables → Reader Totals
rules_into m t = map (λ l. (length (records l.0), warnings l.0, all_kept t 0 (records l.0))) (judged_rules m)

-- what a reading answers, and the tables with its records
abbrev pub into : {A : Type 0} → Tables → A × List (List ℤ) → A × Tables
into t r = (r.0, all_kept t 0 r.1)
