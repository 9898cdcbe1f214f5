-- The place of an item that is read at a place is not before it, and is one of the item's own bytes.
use Prim.Native.Nat.{ℕ, suc, ◌≤◌, ◌<◌}
use mathlib.Core.List.{List, [], ◌∷◌}
use native.Mathlib.Omega.{arith}
use Rattle.names.specs.Read.{Read, got, none, refused, Reader, follow, pure}
use Rattle.names.specs.Texts.{blank, blanks}
use Rattle.names.specs.Names.{name, week}
use Rattle.names.proofs.Local.{past_one}
use Rattle.names.proofs.Upto.{Upto, upto_then, upto_or, upto_less}
use Rattle.names.proofs.Cut.{blank_local}
use Rattle.names.proofs.NameCut.{name_local}
use Rattle.records.specs.declared.Item.{Item}
use Rattle.records.proofs.Cut.{AlikeIn}
use Rattle.times.proofs.Cut.{time_item_alike}
use Rattle.days.proofs.Cut.{weekday_item_alike, holiday_item_alike}
use Rattle.dates.specs.Weeks.{week_item}
use Rattle.dates.proofs.Cut.{year_item_alike, week_item_alike, month_day_item_alike}
use Rattle.items.specs.Musts.{missing, must}
use Rattle.names.specs.declared.Manner.{Manner}
use Rattle.records.specs.Words.{Placed}
use Rattle.items.specs.Kinds.{after_blank, at, weeks, item_of, item_in}
use Rattle.items.specs.declared.Kind.{Kind}
use Rattle.items.specs.declared.Kind.TheVariants.{Years, MonthDays, Weeks, WeekNumbers, Weekdays, LastWeekdays, Holidays, LastHolidays, Times}

-- an item that is read from i up to j, and its place
abbrev pub Inside : ℕ → Placed → ℕ → Type 0
Inside i a j = (i ≤ a.1) × (a.1 < j)

-- from an earlier place
pub inside_from : {i j : ℕ} (a : Placed) (k : ℕ) → i ≤ j → Inside j a k → Inside i a k
inside_from a k h p = (omega (arith, p.0), p.1)

module _ (s : List ℕ) where
  -- what has to stand at a place
  pub must_upto : {A : Type 0} (P : A → ℕ → Type 0) (i : ℕ) (m : Reader A) → Upto P (m s i) → Upto P (must m s i)
  unfolding missing
  must_upto P i m h = upto_or P s i (m s i) missing h (upto_then P s i _ (blanks s i) (λ _ j e. tt))

  -- what stands after a blank
  pub after_blank_upto : {A : Type 0} (P : A → ℕ → Type 0) (i : ℕ) (m : Reader A) → ((j : ℕ) → i < j → Upto P (m s j)) → Upto P (after_blank m s i)
  after_blank_upto P i m h = upto_then P s i (λ _. m) (blank s i) (λ _ j e. h j (past_one blank_local e).0)

  -- an item at its place
  at_inside : {e : Manner} {k : ℕ} {m : Reader Item} → AlikeIn e [] (suc k) m → (i : ℕ) → Upto (Inside i) (at m s i)
  at_inside {m = m} M i = upto_then (Inside i) s i (λ a. pure (a, i)) (m s i) (λ a j e. (omega arith, (past_one M e).0))

  -- a week's number that stands later
  week_inside : (i j : ℕ) → i ≤ j → Upto (Inside i) (at week_item s j)
  week_inside i j h = upto_less (Inside j) (Inside i) (λ a k. inside_from a k h) (at week_item s j) (at_inside week_item_alike j)

  -- what stands after the word
  after_week_inside : (i j : ℕ) → i ≤ j → Upto (Inside i) (must (after_blank (at week_item)) s j)
  after_week_inside i j h = must_upto (Inside i) j (after_blank (at week_item)) (after_blank_upto (Inside i) j (at week_item) (λ k l. week_inside i k (omega arith)))

  weeks_inside : (i : ℕ) → Upto (Inside i) (weeks s i)
  unfolding weeks
  weeks_inside i = upto_then (Inside i) s i (λ _. must (after_blank (at week_item))) (name week s i) (λ _ j e. after_week_inside i j (omega (arith, (past_one (name_local week) e).0)))

  item_of_inside : (m : Manner) (k : Kind) (i : ℕ) → Upto (Inside i) (item_of m k s i)
  unfolding item_of
  item_of_inside m Years i = at_inside year_item_alike i
  item_of_inside m MonthDays i = at_inside month_day_item_alike i
  item_of_inside m Weeks i = weeks_inside i
  item_of_inside m WeekNumbers i = at_inside week_item_alike i
  item_of_inside m Weekdays i = at_inside (weekday_item_alike m) i
  item_of_inside m LastWeekdays i = at_inside (weekday_item_alike m) i
  item_of_inside m Holidays i = at_inside holiday_item_alike i
  item_of_inside m LastHolidays i = at_inside holiday_item_alike i
  item_of_inside m Times i = at_inside (time_item_alike m) i

  -- an item of one of several kinds
  pub item_in_inside : (m : Manner) (ks : List Kind) (i : ℕ) → Upto (λ x j. Inside i x.0 j) (item_in m ks s i)
  unfolding item_in
  item_in_inside m [] i = tt
  item_in_inside m (k ∷ ks) i = go (item_of m k s i) (item_of_inside m k i) (item_in_inside m ks i)
    where
      go : (r : Read Placed) → Upto (Inside i) r → Upto (λ x j. Inside i x.0 j) (item_in m ks s i) → Upto (λ x j. Inside i x.0 j) (follow s i r (λ a. pure (a, k)) (item_in m ks))
      go (got a j) h others = h
      go none h others = others
      go (refused n p) h others = tt
