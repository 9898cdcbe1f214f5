-- The calls for C that ask something of the rules of a table of bytes: the number, and the lent bytes afterwards.
use Rattle.std.specs.Prelude.{ℕ, List, []}
use Rattle.touched.specs.Days.{rule_days}
use Rattle.months.specs.Entries.{rule_months, renew_months}

-- the rule numbered k of a table t is run over the days d, with room for answers a
abbrev pub days_call : List ℕ → ℕ → List ℕ → List ℕ → ℕ × List ℕ
days_call t k d a = rule_days ([], t) k d a

-- the list e is built of a table t
abbrev pub months_call : List ℕ → List ℕ → ℕ × List ℕ
months_call t e = rule_months ([], t) e

-- the list e is renewed: it has so many rules, and those from `first` on are of a part that had `old` records and now has those of t
abbrev pub renew_call : List ℕ → ℕ → ℕ → ℕ → List ℕ → ℕ × List ℕ
renew_call e rules first old t = renew_months ([], t) e rules first old
