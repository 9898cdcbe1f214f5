-- Sets of kinds as the code has them: a bit for each kind.
use Rattle.std.specs.Prelude.{ℕ, List, [], ◌∷◌, Bool, false, ◌||◌, not, eqb, if◌then◌else◌}
use Rattle.std.specs.Int.Bits.{bit_and}
use Rattle.names.specs.Names.{weekday, month, event, easter, holiday, week}
use Rattle.items.specs.declared.Kind.{Kind}
use Rattle.items.specs.declared.Kind.TheVariants.{Years, MonthDays, Weeks, WeekNumbers, Weekdays, LastWeekdays, Holidays, LastHolidays, Times}

-- a kind's bit
unfoldable pub bit_of : Kind → ℕ
bit_of Years = 1
bit_of MonthDays = 2
bit_of Weeks = 4
bit_of WeekNumbers = 8
bit_of Weekdays = 16
bit_of LastWeekdays = 32
bit_of Holidays = 64
bit_of LastHolidays = 128
bit_of Times = 256

-- whether a set has a bit
unfoldable pub has : ℕ → ℕ → Bool
has set bit = not (eqb (bit_and set bit) 0)

-- whether a set has a kind
abbrev pub has_kind : ℕ → Kind → Bool
has_kind set k = has set (bit_of k)

-- those of some kinds that a set has
unfoldable pub picked : ℕ → List Kind → List Kind
picked set [] = []
picked set (k ∷ ks) = if has_kind set k then k ∷ picked set ks else picked set ks

-- the kinds that begin with a year or may
abbrev pub yearly : List Kind
yearly = MonthDays ∷ Years ∷ []

-- those that begin with other numbers or may
abbrev pub numbered : List Kind
numbered = Times ∷ WeekNumbers ∷ []

-- the kinds of a set, in the order in which they are tried
unfoldable pub kinds_of : ℕ → List Kind
kinds_of set = picked set (MonthDays ∷ Years ∷ Weeks ∷ Weekdays ∷ LastWeekdays ∷ Holidays ∷ LastHolidays ∷ numbered)

-- whether an item of a kind may begin with a name of this kind
unfoldable pub begins_with : ℕ → Kind → Bool
begins_with n Years = false
begins_with n MonthDays = eqb n month || eqb n easter
begins_with n Weeks = eqb n week
begins_with n WeekNumbers = false
begins_with n Weekdays = eqb n weekday
begins_with n LastWeekdays = eqb n weekday
begins_with n Holidays = eqb n holiday
begins_with n LastHolidays = eqb n holiday
begins_with n Times = eqb n event
