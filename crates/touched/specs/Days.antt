-- A rule run over recorded days (docs/RULES.md, 11): lent bytes have three numbers for each day, year, month and day, and one number for each answer.
use Rattle.std.specs.Prelude.{ℕ, zero, suc, ◌+◌, ◌*◌, ◌/◌, ◌%◌, Bool, true, ◌&&◌, List, [], ◌∷◌, map, eqb, leb, ltb, length, if◌then◌else◌, Result, Ok, Err}
use Rattle.std.proofs.Math.Option.{Option, none, some}
use Rattle.lent_slots.specs.Tables.{Tables}
use Rattle.records.specs.declared.Item.{Item}
use Rattle.lent_slots.specs.Slots.{number_from}
use Rattle.tables.specs.Tables.{table_fits}
use Rattle.table_rules.specs.Rules.{Rule, rules_in, rule_at}
use Rattle.table_rules.specs.Numbers.{written}
use Rattle.almanac.specs.Numbers.{ymd, possible}
use Rattle.almanac.specs.Weeks.{on_day}
use Rattle.almanac.specs.declared.Ymd.{Ymd}
use Rattle.touched.specs.Touches.{touch_word}
use Rattle.touched.specs.Kinds.{rule_touch}
use Rattle.touched.specs.declared.days.DaysError.{DaysError}
use Rattle.touched.specs.declared.days.DaysError.TheVariants.{NoFit, NoDays, FewAnswers}

-- ---- the days

-- a number up to top; another one is taken as 0, which is no day's year, month or day
unfoldable pub up_to : ℕ → ℕ → ℕ
up_to top n = if leb n top then n else 0

-- the day numbered i, from 0
unfoldable pub day_at : List ℕ → ℕ → Ymd
day_at b i = ymd (up_to 65535 (number_from b (i * 12))) (up_to 255 (number_from b (i * 12 + 4))) (up_to 255 (number_from b (i * 12 + 8)))

-- n days from day i on
unfoldable pub days_from : List ℕ → ℕ → ℕ → List Ymd
days_from b zero i = []
days_from b (suc n) i = day_at b i ∷ days_from b n (suc i)

abbrev pub day_count : List ℕ → ℕ
day_count b = length b / 12

abbrev pub days_in : List ℕ → List Ymd
days_in b = days_from b (day_count b) 0

unfoldable pub all_possible : List Ymd → Bool
all_possible [] = true
all_possible (a ∷ l) = possible a && all_possible l

-- nothing is left over, and each day is one of the calendar, 1900 to 9999
unfoldable pub days_fit : List ℕ → Bool
days_fit b = eqb (length b % 12) 0 && all_possible (days_in b)

-- ---- the answers

-- the number of a day's answer, of a rule with these items
abbrev pub answer_for : List Item → Ymd → ℕ
answer_for l a = touch_word (rule_touch (on_day a) l)

-- an impossible day, numbers left over, or no such rule
abbrev pub no_days : ℕ
no_days = 20

-- fewer answers than days
abbrev pub few_answers : ℕ
few_answers = 24

-- records that do not fit
abbrev pub no_fit : ℕ
no_fit = 16

-- the number of each reason why a rule is not run, and of an outcome
abbrev pub error_number : DaysError → ℕ
error_number NoFit = no_fit
error_number NoDays = no_days
error_number FewAnswers = few_answers

abbrev pub number_of : Result (Unit {0}) DaysError → ℕ
number_of (Ok u) = 0
number_of (Err e) = error_number e

-- the number and the answers of a rule, for room for so many answers
unfoldable pub rule_answers : Option Rule → List ℕ → ℕ → ℕ × List ℕ
rule_answers none d room = (no_days, [])
rule_answers (some r) d room =
    if days_fit d then (if ltb room (day_count d) then (few_answers, []) else (0, map (answer_for r.items) (days_in d)))
    else (no_days, [])

-- of the rule numbered k of a table
unfoldable pub table_answers : Tables → ℕ → List ℕ → ℕ → ℕ × List ℕ
table_answers t k d room = if table_fits t then rule_answers (rule_at k (rules_in t)) d room else (no_fit, [])

-- the number, and the lent bytes of the answers afterwards: only the answers' own bytes change, and none where the number is not 0
unfoldable pub rule_days : Tables → ℕ → List ℕ → List ℕ → ℕ × List ℕ
rule_days t k d a = ((table_answers t k d (length a / 4)).0, written a 0 (table_answers t k d (length a / 4)).1)
