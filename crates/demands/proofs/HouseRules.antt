-- A house sheet's rules are read as by the first edition.
use Rattle.std.specs.Prelude.{Err, None, Ok, Option, Some}
use Prim.Native.Nat.{ℕ}
use mathlib.Core.List.{List, [], ◌∷◌}
use mathlib.Core.Path.{◌≡◌, refl, ap, fun_ext}
use Rattle.names.specs.declared.Manner.TheVariants.{First, House}
use Rattle.records.specs.Items.{item}
use Rattle.records.specs.Items.{Meant}
use Rattle.times.specs.Meanings.{span_of, span_meaning}
use Rattle.times.specs.Spans.{span_shape, time_item}
use Rattle.times.specs.Shapes.{RawSpan, Alone, Open, Until}
use Rattle.days.specs.Weekdays.{weekday_shape, weekday_item}
use Rattle.items.specs.Kinds.{item_of, item_in}
use Rattle.items.specs.declared.Kind.{Kind}
use Rattle.items.specs.declared.Kind.TheVariants.{Years, MonthDays, Weeks, WeekNumbers, Weekdays, LastWeekdays, Holidays, LastHolidays, Times}
use Rattle.rules.specs.Rows.{small, first, listed, following}
use Rattle.rules.specs.Pieces.{goes_on, colon, more}
use Rattle.rules.specs.Rules.{after_opening, rule}
use Rattle.rules.specs.declared.Stage.{Stage}
use Rattle.rules.specs.declared.Stage.TheVariants.{Beginning, Always, Colon, After}
use Rattle.text_rules.specs.Texts.{parted, more_rules, rules}

span_same : (r : RawSpan) → span_of House r ≡ span_of First r
span_same (Alone t) = refl
span_same (Open t) = refl
span_same (Until a b t) = refl

meaning_same : (r : RawSpan) → span_meaning House r ≡ span_meaning First r
unfolding span_meaning
meaning_same r = rw (span_same r)

time_same : time_item House ≡ time_item First
unfolding time_item
time_same = ap (λ (f : RawSpan → Meant). item span_shape f) (fun_ext meaning_same)

weekday_same : weekday_item House ≡ weekday_item First
unfolding weekday_item weekday_shape
weekday_same = refl

kind_same : (k : Kind) → item_of House k ≡ item_of First k
unfolding item_of
kind_same Years = refl
kind_same MonthDays = refl
kind_same Weeks = refl
kind_same WeekNumbers = refl
kind_same Weekdays = rw (weekday_same)
kind_same LastWeekdays = rw (weekday_same)
kind_same Holidays = refl
kind_same LastHolidays = refl
kind_same Times = rw (time_same)

item_same : (ks : List Kind) → item_in House ks ≡ item_in First ks
unfolding item_in
item_same [] = refl
item_same (k ∷ ks) = rw (kind_same k, item_same ks)

more_same : (x : Stage) → more House x ≡ more First x
unfolding more goes_on colon
more_same Beginning = rw (item_same first)
more_same Always = refl
more_same Colon = rw (item_same small)
more_same (After k) = rw (item_same (listed k), item_same small, item_same (following k))

rule_same : (separator : ℕ) → rule House separator ≡ rule First separator
unfolding rule after_opening
rule_same separator = rw (fun_ext more_same)

next_same : (x : Option ℕ) → more_rules House x ≡ more_rules First x
unfolding more_rules parted
next_same (Some separator) = rw (rule_same separator)
next_same None = refl

pub rules_same : rules House ≡ rules First
unfolding rules
rules_same = rw (fun_ext next_same)
