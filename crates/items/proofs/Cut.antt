-- Each definition depends on nothing before its place and nothing from a `;` outside quotes on.
use Prim.Native.Nat.{ℕ, ◌+◌, ◌≤◌, min}
use mathlib.Core.List.{List, [], ◌∷◌}
use mathlib.Core.Bool.{false}
use native.Mathlib.Omega.{arith}
use Rattle.names.specs.Read.{Reader, branch, nothing, pure, refused}
use Rattle.names.specs.Names as names
use Rattle.names.specs.declared.Manner.{Manner}
use Rattle.names.proofs.Local.{Stop, LocalIn, Local, in_any, loose, nothing_local, pure_local, here_local, branch_moved, bind_local, then_local, or_local}
use Rattle.names.proofs.Chains.{step_moves}
use Rattle.names.proofs.Cut.{blanks_local, blank_local}
use Rattle.names.proofs.NameCut.{name_local}
use Rattle.records.specs.declared.Item.{Item}
use Rattle.records.proofs.Cut.{AlikeIn}
use Rattle.times.proofs.Cut.{time_item_alike}
use Rattle.days.proofs.Cut.{weekday_item_alike, holiday_item_alike}
use Rattle.dates.proofs.Cut.{year_item_alike, week_item_alike, month_day_item_alike}
use Rattle.items.specs.Musts.{missing_at, missing, must}
use Rattle.records.specs.Words.{Placed}
use Rattle.items.specs.Kinds.{after_blank, at, weeks, item_of, item_in}
use Rattle.items.specs.declared.Kind.{Kind}
use Rattle.items.specs.declared.Kind.TheVariants.{Years, MonthDays, Weeks, WeekNumbers, Weekdays, LastWeekdays, Holidays, LastHolidays, Times}
use Rattle.items.proofs.Quotes.{missing_alike, missing_number}

-- ---- what has to stand at a place

-- a refusal here, by a number that the bytes here tell
refused_here : {A : Type 0} {sh : ℕ → A → A} {u : List ℕ} {k : ℕ} → Local Stop sh u false false k (λ s p. refused (missing_at s p) p) (λ s p. refused (missing_at s p) p)
refused_here {A} {sh} {u} = record { ends = λ s v i z w. let n = missing_number s i in (n.0, n.1.0); same = λ s v i z w. rw (missing_alike u s v i z w); near = λ s i h. (missing_number s i, omega arith) }

pub missing_local : {A : Type 0} {sh : ℕ → A → A} {u : List ℕ} {k : ℕ} → Local Stop sh u false false k missing missing
unfolding missing
missing_local {k = k} = loose (bind_local {l = k} blanks_local (λ _. refused_here)) (omega arith)

pub must_local : {A : Type 0} {e : Manner} {sh : ℕ → A → A} {u : List ℕ} {k : ℕ} {m' m : Reader A} → LocalIn e Stop sh u false false k m' m →
    LocalIn e Stop sh u false false k (must m') (must m)
must_local M = or_local M (in_any missing_local)

-- ---- items

-- the place of an item moves
abbrev pub placed_moves : ℕ → Placed → Placed
placed_moves n a = (a.0, n + a.1)

-- the bytes that an item of a kind takes at least
abbrev pub least : Kind → ℕ
least Years = 4
least MonthDays = 2
least Weeks = 4
least WeekNumbers = 1
least Weekdays = 2
least LastWeekdays = 2
least Holidays = 2
least LastHolidays = 2
least Times = 2

-- and one of several kinds
abbrev pub least_of : List Kind → ℕ
least_of [] = 4
least_of (k ∷ ks) = min (least k) (least_of ks)

-- a byte at least
pub takes_one : (ks : List Kind) → 1 ≤ least_of ks
takes_one [] = omega arith
takes_one (k ∷ ks) = omega (arith, one k, takes_one ks)
  where
    one : (k : Kind) → 1 ≤ least k
    one Years = omega arith
    one MonthDays = omega arith
    one Weeks = omega arith
    one WeekNumbers = omega arith
    one Weekdays = omega arith
    one LastWeekdays = omega arith
    one Holidays = omega arith
    one LastHolidays = omega arith
    one Times = omega arith

module _ {u : List ℕ} where
  pub after_blank_local : {A : Type 0} {e : Manner} {sh : ℕ → A → A} {k : ℕ} {m' m : Reader A} → LocalIn e Stop sh u false false k m' m →
      LocalIn e Stop sh u false false (1 + k) (after_blank m') (after_blank m)
  after_blank_local M = bind_local (in_any blank_local) (λ _. M)

  -- an item at its place
  pub at_local : {e : Manner} {k : ℕ} {m : Reader Item} → AlikeIn e u k m → LocalIn e Stop placed_moves u false false k (at m) (at m)
  at_local {m = m} M =
      let f : ℕ → Reader Placed = λ p. branch m (λ a. pure (a, p)) nothing in
      loose (branch_moved f f here_local (λ p. then_local M (λ a. pure_local (a, p))) nothing_local) (omega arith)

  weeks_local : Local Stop placed_moves u false false 4 weeks weeks
  unfolding weeks
  weeks_local = bind_local {l = 2} (name_local names.week) (λ _. must_local (after_blank_local (at_local week_item_alike)))

  pub item_of_local : (m : Manner) (k : Kind) → LocalIn m Stop placed_moves u false false (least k) (item_of m k) (item_of m k)
  unfolding item_of
  item_of_local m Years = in_any (at_local year_item_alike)
  item_of_local m MonthDays = in_any (at_local month_day_item_alike)
  item_of_local m Weeks = in_any weeks_local
  item_of_local m WeekNumbers = in_any (at_local week_item_alike)
  item_of_local m Weekdays = in_any (at_local (weekday_item_alike m))
  item_of_local m LastWeekdays = in_any (at_local (weekday_item_alike m))
  item_of_local m Holidays = in_any (at_local holiday_item_alike)
  item_of_local m LastHolidays = in_any (at_local holiday_item_alike)
  item_of_local m Times = at_local (time_item_alike m)

  pub item_in_local : (m : Manner) (ks : List Kind) → LocalIn m Stop (step_moves placed_moves) u false false (least_of ks) (item_in m ks) (item_in m ks)
  unfolding item_in
  item_in_local m [] = nothing_local
  item_in_local m (k ∷ ks) =
      let f : Placed → Reader (Placed × Kind) = λ a. pure (a, k) in
      let l = least_of (k ∷ ks) in
      loose (branch_moved {k = l} {l = 0} f f (loose (item_of_local m k) (omega arith)) (λ a. pure_local (a, k)) (loose (item_in_local m ks) (omega arith))) (omega arith)
