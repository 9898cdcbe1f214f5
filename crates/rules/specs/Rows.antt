-- What may stand in a rule after an item of a kind: a row for each kind (docs/RULES.md, 1).
use Rattle.std.specs.Prelude.{Bool, true, false, List, [], ◌∷◌}
use Rattle.items.specs.declared.Kind.{Kind}
use Rattle.items.specs.declared.Kind.TheVariants.{Years, MonthDays, Weeks, WeekNumbers, Weekdays, LastWeekdays, Holidays, LastHolidays, Times}

-- small: weekdays, holidays or times
abbrev pub small : List Kind
small = Weekdays ∷ Holidays ∷ Times ∷ []

-- the first item of a rule. A year before a blank and a month or `easter` belongs to the date: month days are tried before years
abbrev pub first : List Kind
first = MonthDays ∷ Years ∷ Weeks ∷ small

-- after a comma of a list: all weekdays before all holidays or the reverse
unfoldable pub listed : Kind → List Kind
listed Years = Years ∷ []
listed MonthDays = MonthDays ∷ []
listed Weeks = WeekNumbers ∷ []
listed WeekNumbers = WeekNumbers ∷ []
listed Weekdays = Weekdays ∷ LastHolidays ∷ []
listed LastWeekdays = LastWeekdays ∷ []
listed Holidays = LastWeekdays ∷ Holidays ∷ []
listed LastHolidays = LastHolidays ∷ []
listed Times = Times ∷ []

-- after a blank: years, month days, weeks, in that order, then a small part; weekdays or holidays, then times
unfoldable pub following : Kind → List Kind
following Years = MonthDays ∷ Weeks ∷ small
following MonthDays = Weeks ∷ small
following Weeks = small
following WeekNumbers = small
following Weekdays = Times ∷ []
following LastWeekdays = Times ∷ []
following Holidays = Times ∷ []
following LastHolidays = Times ∷ []
following Times = []

-- whether a kind belongs to the wide part, which may end in a colon
unfoldable pub is_wide : Kind → Bool
is_wide Years = true
is_wide MonthDays = true
is_wide Weeks = true
is_wide WeekNumbers = true
is_wide Weekdays = false
is_wide LastWeekdays = false
is_wide Holidays = false
is_wide LastHolidays = false
is_wide Times = false
