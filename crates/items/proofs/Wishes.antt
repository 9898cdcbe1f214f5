-- As what an item that begins with a name is wanted: of the kinds of a set, only those that begin so count.
use Rattle.std.specs.Prelude.{Option, None, if◌then◌else◌}
use Prim.Native.Nat.{ℕ}
use mathlib.Core.Bool.{Bool, true, false}
use mathlib.Core.List.{List, [], ◌∷◌}
use mathlib.Core.Path.{◌≡◌, refl, ap, ◌∙◌}
use borrow.Author.Tests.{ne_eqb}
use Rattle.names.specs.Names.{weekday, month, event, easter, holiday, week}
use Rattle.items.specs.Sets.{has_kind, picked, numbered, kinds_of, begins_with}
use Rattle.items.specs.Seen.{wish_if, wished}
use Rattle.items.specs.declared.Kind.{Kind}
use Rattle.items.specs.declared.Kind.TheVariants.{Years, MonthDays, Weeks, WeekNumbers, Weekdays, LastWeekdays, Holidays, LastHolidays, Times}

module _ (n set : ℕ) where
  -- what is wished of some kinds
  abbrev wish : List Kind → Option Kind
  wish ks = wished n (picked set ks)

  -- a kind that does not begin so, and one that does
  skip : (k : Kind) (ks : List Kind) → begins_with n k ≡ false → wish (k ∷ ks) ≡ wish ks
  unfolding picked wished
  skip k ks e = go (has_kind set k)
    where
      go : (t : Bool) → wished n (if t then k ∷ picked set ks else picked set ks) ≡ wish ks
      go true = rw e
      go false = refl

  take : (k : Kind) (ks : List Kind) → begins_with n k ≡ true → wish (k ∷ ks) ≡ wish_if (has_kind set k) k (wish ks)
  unfolding picked wished
  take k ks e = go (has_kind set k)
    where
      go : (t : Bool) → wished n (if t then k ∷ picked set ks else picked set ks) ≡ wish_if t k (wish ks)
      go true = rw e
      go false = refl

module _ (set : ℕ) where
  -- the kinds from weekdays on, and from holidays on
  abbrev days : List Kind
  days = Weekdays ∷ LastWeekdays ∷ Holidays ∷ LastHolidays ∷ numbered

  abbrev holidays : List Kind
  holidays = Holidays ∷ LastHolidays ∷ numbered

  -- none of the last
  no_week_number : (n : ℕ) → wish n set (WeekNumbers ∷ []) ≡ None
  unfolding begins_with picked wished
  no_week_number n = skip n set WeekNumbers [] refl

  no_number : (n : ℕ) → begins_with n Times ≡ false → wish n set numbered ≡ None
  no_number n e = skip n set Times (WeekNumbers ∷ []) e ∙ no_week_number n

  -- past the kinds that do not begin with such a name
  to_days : (n : ℕ) → begins_with n MonthDays ≡ false → begins_with n Weeks ≡ false → wished n (kinds_of set) ≡ wish n set days
  unfolding kinds_of begins_with
  to_days n a b = skip n set MonthDays _ a ∙ skip n set Years _ refl ∙ skip n set Weeks _ b

  no_weekdays : (n : ℕ) → begins_with n Weekdays ≡ false → wish n set days ≡ wish n set holidays
  unfolding begins_with
  no_weekdays n e = skip n set Weekdays _ e ∙ skip n set LastWeekdays _ e

  no_holidays : (n : ℕ) → begins_with n Holidays ≡ false → wish n set holidays ≡ wish n set numbered
  unfolding begins_with
  no_holidays n e = skip n set Holidays _ e ∙ skip n set LastHolidays _ e

  pub weekday_wish : wished weekday (kinds_of set) ≡ wish_if (has_kind set Weekdays) Weekdays (wish_if (has_kind set LastWeekdays) LastWeekdays None)
  unfolding begins_with
  weekday_wish =
      let no-later = no_holidays weekday refl ∙ no_number weekday refl in
      let last = take weekday set LastWeekdays _ refl ∙ ap (wish_if (has_kind set LastWeekdays) LastWeekdays) no-later in
      to_days weekday refl refl ∙ take weekday set Weekdays _ refl ∙ ap (wish_if (has_kind set Weekdays) Weekdays) last

  pub holiday_wish : wished holiday (kinds_of set) ≡ wish_if (has_kind set Holidays) Holidays (wish_if (has_kind set LastHolidays) LastHolidays None)
  unfolding begins_with
  holiday_wish =
      let last = take holiday set LastHolidays _ refl ∙ ap (wish_if (has_kind set LastHolidays) LastHolidays) (no_number holiday refl) in
      to_days holiday refl refl ∙ no_weekdays holiday refl ∙ take holiday set Holidays _ refl ∙ ap (wish_if (has_kind set Holidays) Holidays) last

  pub event_wish : wished event (kinds_of set) ≡ wish_if (has_kind set Times) Times None
  unfolding begins_with
  event_wish =
      to_days event refl refl ∙ no_weekdays event refl ∙ no_holidays event refl ∙ take event set Times _ refl ∙ ap (wish_if (has_kind set Times) Times) (no_week_number event)

  pub week_wish : wished week (kinds_of set) ≡ wish_if (has_kind set Weeks) Weeks None
  unfolding kinds_of begins_with
  week_wish =
      let no-later = no_weekdays week refl ∙ no_holidays week refl ∙ no_number week refl in
      skip week set MonthDays _ refl ∙ skip week set Years _ refl ∙ take week set Weeks _ refl ∙ ap (wish_if (has_kind set Weeks) Weeks) no-later

  -- after the month days: none
  date_rest : (n : ℕ) → begins_with n Weeks ≡ false → begins_with n Weekdays ≡ false → begins_with n Holidays ≡ false → begins_with n Times ≡ false → wish n set (Years ∷ Weeks ∷ days) ≡ None
  unfolding begins_with
  date_rest n a b c d = skip n set Years _ refl ∙ skip n set Weeks _ a ∙ no_weekdays n b ∙ no_holidays n c ∙ no_number n d

  pub month_wish : wished month (kinds_of set) ≡ wish_if (has_kind set MonthDays) MonthDays None
  unfolding kinds_of begins_with
  month_wish = take month set MonthDays _ refl ∙ ap (wish_if (has_kind set MonthDays) MonthDays) (date_rest month refl refl refl refl)

  pub easter_wish : wished easter (kinds_of set) ≡ wish_if (has_kind set MonthDays) MonthDays None
  unfolding kinds_of begins_with
  easter_wish = take easter set MonthDays _ refl ∙ ap (wish_if (has_kind set MonthDays) MonthDays) (date_rest easter refl refl refl refl)

  -- a name that begins no item
  pub other_wish : (n : ℕ) → (n ≡ weekday → ⊥) → (n ≡ month → ⊥) → (n ≡ easter → ⊥) → (n ≡ event → ⊥) → (n ≡ holiday → ⊥) → (n ≡ week → ⊥) → wished n (kinds_of set) ≡ None
  unfolding kinds_of begins_with
  other_wish n a b c d e f =
      let dates : begins_with n MonthDays ≡ false = rw (ne_eqb n month b, ne_eqb n easter c) in
      skip n set MonthDays _ dates ∙ date_rest n (ne_eqb n week f) (ne_eqb n weekday a) (ne_eqb n holiday e) (ne_eqb n event d)

-- what is wished, by the kind of the name
pub ruleset wishes = (weekday_wish, month_wish, easter_wish, event_wish, holiday_wish, week_wish, other_wish)
