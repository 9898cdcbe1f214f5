-- Warnings: a name that is not written as it should be calls for one (docs/RULES.md, 3).
use Rattle.std.specs.Prelude.{ℕ, ◌+◌, Bool, if◌then◌else◌}
use Rattle.records.specs.declared.Odd.{Odd}
use Rattle.records.specs.declared.Item.{Item}
use Rattle.records.specs.declared.Item.TheVariants.{Years, Months, Dates, Weeks, Weekdays, Holidays, Times}

-- a text has at most so many: 6 for each of at most 4,096 records (`item_warnings_few`, proofs/Warned.antt)
abbrev pub most_warnings : ℕ
most_warnings = 24576

-- a warning for a name, or none
abbrev pub once : Bool → ℕ
once odd = if odd then 1 else 0

-- those of a date
abbrev pub date_warnings : Odd → ℕ
date_warnings o = once o.name + once o.weekday + once o.offset

-- how many warnings the names of an item call for
unfoldable pub item_warnings : Item → ℕ
item_warnings (Years r) = 0
item_warnings (Months r) = once r.odd_first + once r.odd_last
item_warnings (Dates r) = date_warnings r.odd_start + date_warnings r.odd_end
item_warnings (Weeks r) = 0
item_warnings (Weekdays r) = once r.odd_first + once r.odd_last
item_warnings (Holidays r) = 0
item_warnings (Times r) = once r.odd_start + once r.odd_end
