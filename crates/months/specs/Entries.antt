-- The list of entries, one for each rule of a table: its head's number, and the months that its month-day items can touch. In lent bytes an entry is two numbers.
use Rattle.std.specs.Prelude.{ℕ, zero, suc, ◌+◌, ◌*◌, ◌-◌, ◌/◌, ◌%◌, List, [], ◌∷◌, ltb, length, if◌then◌else◌, Result, Ok, Err}
use Rattle.std.proofs.lemmas.List.Edits.{sets}
use Rattle.lent_slots.specs.Bytes.{little_endian}
use Rattle.lent_slots.specs.Tables.{Tables}
use Rattle.lent_slots.specs.Slots.{number_from, slots}
use Rattle.tables.specs.Tables.{table_fits}
use Rattle.table_rules.specs.Rules.{Rule, rules_in}
use Rattle.table_rules.specs.Numbers.{written}
use Rattle.months.specs.Months.{rule_mask}
use Rattle.months.specs.declared.entries.ListError.{ListError}
use Rattle.months.specs.declared.entries.ListError.TheVariants.{NoFit, ShortList}

-- head numbers are counted modulo 2 ^ 32
abbrev pub wrap : ℕ → ℕ
wrap n = n % 4294967296

-- the entries of rules, the first record of which has number base
unfoldable pub entries_of : ℕ → List Rule → List ℕ
entries_of base [] = []
entries_of base (r ∷ rs) = wrap (base + r.head) ∷ rule_mask r.items ∷ entries_of base rs

-- records that do not fit
abbrev pub no_fit : ℕ
no_fit = 16

-- the list is shorter than the rules
abbrev pub short_list : ℕ
short_list = 21

-- the number of each reason why a list is not built or renewed, and of an outcome
abbrev pub error_number : ListError → ℕ
error_number NoFit = no_fit
error_number ShortList = short_list

abbrev pub number_of : Result (Unit {0}) ListError → ℕ
number_of (Ok u) = 0
number_of (Err e) = error_number e

-- how many entries lent bytes have
abbrev pub entry_count : List ℕ → ℕ
entry_count e = length e / 8

-- the number, and the entries from the first on
unfoldable pub table_entries : Tables → ℕ → ℕ × List ℕ
table_entries t room =
    if table_fits t then (if ltb room (length (rules_in t)) then (short_list, []) else (0, entries_of 0 (rules_in t)))
    else (no_fit, [])

-- building: the number, and the list afterwards; entries past the rules stay
unfoldable pub rule_months : Tables → List ℕ → ℕ × List ℕ
rule_months t e = ((table_entries t (entry_count e)).0, written e 0 (table_entries t (entry_count e)).1)

-- ---- renewing

-- a head's number after a part with `old` records has come to have `new`
abbrev pub moved_head : ℕ → ℕ → ℕ → ℕ
moved_head old new h = wrap (h + wrap new + (4294967296 - wrap old))

-- n entries from entry i on have their heads' numbers moved, and keep their months
unfoldable pub heads_moved : ℕ → ℕ → List ℕ → ℕ → ℕ → List ℕ
heads_moved old new e i zero = e
heads_moved old new e i (suc n) = heads_moved old new (sets e (i * 8) (little_endian (moved_head old new (number_from e (i * 8))))) (suc i) n

-- the part's own entries are written from entry `first` on, which says where its heads begin; those after them, up to the list's `rules`, are moved
unfoldable pub renewed : Tables → List ℕ → ℕ → ℕ → ℕ → List ℕ
renewed t e rules first old =
    heads_moved old (slots t) (written e (first * 2) (entries_of (number_from e (first * 8)) (rules_in t))) (first + length (rules_in t)) (rules - (first + length (rules_in t)))

-- the number, and the list afterwards: `rules` entries of which those from `first` on are of a part that had `old` records and now has those of t
unfoldable pub renew_months : Tables → List ℕ → ℕ → ℕ → ℕ → ℕ × List ℕ
renew_months t e rules first old =
    if table_fits t then
    (if ltb (entry_count e) rules then (short_list, e)
    else if ltb rules (first + length (rules_in t)) then (short_list, e)
    else (0, renewed t e rules first old))
    else (no_fit, e)
