-- Years, weeks and dates depend on nothing before their place and nothing from a `;` outside quotes on: the lemmas put together as the definitions are.
use Rattle.std.specs.Prelude.{Option, if◌then◌else◌}
use Prim.Native.Nat.{ℕ, ◌+◌}
use mathlib.Core.List.{List}
use mathlib.Core.Bool.{Bool, true, false, not}
use mathlib.Core.Path.{refl}
use native.Mathlib.Omega.{arith}
use lib.Dec.{eqb, ltb}
use lib.ListN.{length}
use Rattle.names.specs.Read.{Reader, ◌>>=◌}
use Rattle.names.specs.Names.{Word, weekday, month, easter}
use Rattle.names.specs.Spellings.{spelled}
use Rattle.names.specs.declared.Manner.TheVariants.{Second}
use Rattle.names.proofs.Local.{Stop, keep, LocalFrom, loose, free, nothing_local, pure_local, only_local, branch_local, here_then, bind_local, then_local, or_local, maybe_local}
use Rattle.names.proofs.Cut.{byte_local, blank_local, year_local, count_local, ordinal_local, short_local}
use Rattle.names.proofs.Odd.{named_local, spelled_local}
use Rattle.names.proofs.Laws.{either}
use Rattle.records.specs.declared.Day.TheVariants.{Easter}
use Rattle.records.specs.declared.Item.{Item}
use Rattle.records.proofs.Cut.{Alike, Refuses, meant_alike, item_alike}
use Rattle.days.proofs.Cut.{offset_alike}
use Rattle.dates.specs.Ranges.{stepped, until_last, good_range}
use Rattle.dates.specs.Years.{year_after, year_shape, year_meaning, year_item}
use Rattle.dates.specs.Weeks.{week_shape, week_meaning, week_item}
use Rattle.dates.specs.Dates.{Spelt, optional_year, back_nth, front_nth, nth, weekday_of, day_of, day_after, date, raw_date}
use Rattle.dates.specs.Ends.{until_date, bare_day, until, end_shape, dates_after}
use Rattle.dates.specs.Meanings.{date_meaning, month_meaning}
use Rattle.dates.specs.MonthDays.{last_month, month_after, month_item_after, date_item_after, month_day_after, month_day_item}
use Rattle.dates.specs.declared.RawRange.{RawRange}
use Rattle.dates.specs.declared.RawDate.{RawDate}
use Rattle.dates.proofs.Meant.{date_refuses, month_refuses}

-- one or the other, by a test
pub if_alike : {A : Type 0} {u : List ℕ} {k : ℕ} {m n : Reader A} (t : Bool) → Alike u k m → Alike u k n → Alike u k (if t then m else n)
if_alike true M N = M
if_alike false M N = N

module _ {u : List ℕ} where
  pub stepped_alike : Alike u 0 stepped
  unfolding stepped
  stepped_alike = maybe_local (then_local (byte_local 47 refl refl) (λ _. free count_local)) 1

  pub until_last_alike : {k : ℕ} {m : Reader ℕ} → Alike u k m → (first : ℕ) → Alike u 1 (until_last m first)
  unfolding until_last
  until_last_alike M first = then_local (byte_local 45 refl refl) (λ _. then_local (free M) (λ last. then_local stepped_alike (λ step. pure_local _)))

  pub year_after_alike : (first : ℕ) → Alike u 0 (year_after first)
  unfolding year_after
  year_after_alike first = or_local (free (then_local (byte_local 43 refl refl) (λ _. pure_local _))) (or_local (free (until_last_alike year_local first)) (pure_local _))

  pub year_shape_alike : Alike u 4 year_shape
  unfolding year_shape
  year_shape_alike = then_local year_local year_after_alike

  pub week_shape_alike : Alike u 1 week_shape
  unfolding week_shape
  week_shape_alike = then_local short_local (λ first. or_local (free (until_last_alike short_local first)) (pure_local _))

  pub optional_year_alike : Alike u 0 optional_year
  unfolding optional_year
  optional_year_alike = maybe_local (then_local year_local (λ y. then_local (free blank_local) (λ _. pure_local _))) _

  pub back_nth_alike : Alike u 1 back_nth
  unfolding back_nth
  back_nth_alike = then_local (byte_local 45 refl refl) (λ _. then_local (free ordinal_local) (λ n. pure_local _))

  pub front_nth_alike : Alike u 1 front_nth
  unfolding front_nth
  front_nth_alike = then_local ordinal_local (λ n. pure_local _)

  pub nth_alike : Alike u 1 nth
  unfolding nth
  nth_alike = or_local back_nth_alike front_nth_alike

  pub weekday_of_alike : (m : ℕ) → Alike u 2 (weekday_of m)
  unfolding weekday_of
  weekday_of_alike m =
      then_local (named_local weekday) (λ w. then_local (free (byte_local 91 refl refl)) (λ _.
      then_local (free nth_alike) (λ n. then_local (free (byte_local 93 refl refl)) (λ _. pure_local _))))

  pub day_of_alike : (m : ℕ) → Alike u 1 (day_of m)
  unfolding day_of
  day_of_alike m = then_local blank_local (λ _. or_local (free (then_local short_local (λ d. pure_local _))) (free (weekday_of_alike m)))

  pub day_after_alike : (w : Word) → Alike u 0 (day_after w)
  unfolding day_after
  day_after_alike w = if_alike (eqb w.0 easter) (pure_local (Easter, false)) (if_alike (eqb w.0 month) (free (day_of_alike w.1)) nothing_local)

  pub date_alike : Alike u 2 date
  unfolding date
  date_alike = bind_local optional_year_alike (λ y. then_local spelled_local (λ w. then_local (day_after_alike w.0) (λ d. pure_local _)))

  pub until_date_alike : Alike u 2 until_date
  unfolding until_date
  until_date_alike = then_local date_alike (λ d. then_local offset_alike (λ o. pure_local _))

  pub bare_day_alike : Alike u 1 bare_day
  unfolding bare_day
  bare_day_alike = then_local short_local (λ d. then_local offset_alike (λ o. pure_local _))

  pub until_alike : Alike u 1 until
  unfolding until
  until_alike = or_local (loose until_date_alike (omega arith)) bare_day_alike

  pub end_shape_alike : Alike u 0 end_shape
  unfolding end_shape
  end_shape_alike = or_local (free (then_local (byte_local 43 refl refl) (λ _. pure_local _))) (or_local (free (then_local (byte_local 45 refl refl) (λ _. free until_alike))) (pure_local _))

  pub dates_after_alike : (d : RawDate) → Alike u 0 (dates_after d)
  unfolding dates_after
  dates_after_alike d = then_local offset_alike (λ o. then_local end_shape_alike (λ e. pure_local _))

  pub last_month_alike : (first : ℕ) → Alike u 0 (last_month first)
  unfolding last_month
  last_month_alike first = maybe_local (then_local (byte_local 45 refl refl) (λ _. free (named_local month))) (first, false)

  pub month_after_alike : (y : Option ℕ) (first : ℕ × Bool) → Alike u 0 (month_after y first)
  unfolding month_after
  month_after_alike y first = then_local (last_month_alike first.0) (λ last. pure_local _)

-- the refusals of years and weeks have numbers
pub year_refuses : (r : RawRange) → Refuses (year_meaning r)
unfolding year_meaning
year_refuses r = either Refuses (not (good_range 1900 9999 r)) _ _ (omega arith) (either Refuses (ltb r.last r.first) _ _ (omega arith) tt)

pub week_refuses : (r : RawRange) → Refuses (week_meaning r)
unfolding week_meaning
week_refuses r = either Refuses (not (good_range 1 53 r)) _ _ (omega arith) (either Refuses (ltb 255 r.step) _ _ (omega arith) (either Refuses (ltb r.last r.first) _ _ (omega arith) tt))

-- an item of a year list, and one of a week list
pub year_item_alike : {u : List ℕ} → Alike u 4 year_item
unfolding year_item
year_item_alike = item_alike year_shape_alike year_meaning year_refuses

pub week_item_alike : {u : List ℕ} → Alike u 1 week_item
unfolding week_item
week_item_alike = item_alike week_shape_alike week_meaning week_refuses

-- the items of a month_day_lem list, p being where each begins
module _ {u : List ℕ} where
  pub month_item_after_alike : (p : ℕ) (y : Option ℕ) (w : Word × Bool) → LocalFrom Second p Stop keep u false false 0 (month_item_after (length u + p) y w) (month_item_after p y w)
  unfolding month_item_after
  month_item_after_alike p y w = then_local (only_local (eqb w.0.0 month)) (λ _. meant_alike (month_after_alike y (w.0.1, w.1)) month_meaning month_refuses p)

  pub date_item_after_alike : (p : ℕ) (y : Option ℕ) (odd : Bool) (d : Spelt) → LocalFrom Second p Stop keep u false false 0 (date_item_after (length u + p) y odd d) (date_item_after p y odd d)
  unfolding date_item_after
  date_item_after_alike p y odd d = meant_alike (dates_after_alike (raw_date y odd d)) date_meaning date_refuses p

  pub month_day_after_alike : (p : ℕ) (y : Option ℕ) (w : Word × Bool) → LocalFrom Second p Stop keep u false false 0 (month_day_after (length u + p) y w) (month_day_after p y w)
  unfolding month_day_after
  month_day_after_alike p y w = branch_local {k = 0} {l = 0} (day_after_alike w.0) (date_item_after_alike p y w.1) (month_item_after_alike p y w)

  pub month_day_item_alike : Alike u 2 month_day_item
  unfolding month_day_item
  month_day_item_alike =
      let f : ℕ → Reader Item = λ p. optional_year >>= λ y. spelled >>= λ w. month_day_after p y w in
      here_then f f (λ p. bind_local optional_year_alike (λ y. then_local spelled_local (month_day_after_alike p y)))
