-- Each definition depends on nothing before its place and nothing from a `;` outside quotes on: the lemmas put together as the definitions are.
use Prim.Native.Nat.{ℕ}
use mathlib.Core.List.{List}
use mathlib.Core.Bool.{true, false, ◌&&◌, not}
use mathlib.Core.Path.{refl}
use native.Mathlib.Omega.{arith}
use lib.Dec.{eqb}
use Rattle.names.specs.Names.{weekday, holiday, day}
use Rattle.names.specs.declared.Manner.{Manner}
use Rattle.names.specs.declared.Manner.TheVariants.{First, Second, House}
use Rattle.names.proofs.Local.{free, pure_local, then_local, or_local, maybe_local}
use Rattle.names.proofs.Cut.{byte_local, blank_local, count_local, ordinal_local}
use Rattle.names.proofs.Chains.{many_local}
use Rattle.names.proofs.NameCut.{name_local}
use Rattle.names.proofs.Odd.{named_local}
use Rattle.names.proofs.Laws.{either}
use lib.IntN.{ℤ}
use Rattle.records.specs.declared.Holiday.{Holiday}
use Rattle.records.specs.declared.Item.TheVariants.{Holidays}
use Rattle.std.specs.Prelude.{Ok, Err}
use Rattle.names.specs.declared.refusals.Reason.TheVariants.{Range}
use Rattle.records.proofs.Cut.{Alike, Refuses, item_alike}
use Rattle.days.specs.Offsets.{plus_or_minus, day_offset, no_days, any_days, wday_offset, offset, good_days}
use Rattle.days.specs.Entries.{back_entry, front_entry, entry, next_entry, no_marks, entries, bits}
use Rattle.days.specs.Weekdays.{Weekday, again, last_weekday, bracketed, until_weekday, with_entries, narrow_after, wide_after, weekday_after, weekday_shape, weekdays_of, flagged}
use Rattle.days.specs.Weekdays.{weekday_meaning, weekday_item}
use Rattle.days.specs.Holidays.{holiday_after, holiday_shape, holiday_meaning, holiday_item}
use Rattle.days.specs.declared.RawWeekdays.{RawWeekdays}

module _ {u : List ℕ} where
  pub plus_or_minus_alike : Alike u 1 plus_or_minus
  unfolding plus_or_minus
  plus_or_minus_alike = or_local (then_local (byte_local 43 refl refl) (λ _. pure_local false)) (then_local (byte_local 45 refl refl) (λ _. pure_local true))

  pub day_offset_alike : Alike u 1 day_offset
  unfolding day_offset
  day_offset_alike =
      then_local blank_local (λ _. then_local (free plus_or_minus_alike) (λ negative. then_local (free count_local) (λ n.
      then_local (free blank_local) (λ _. then_local (free (name_local day)) (λ _. pure_local _)))))

  pub any_days_alike : Alike u 0 any_days
  unfolding any_days
  any_days_alike = maybe_local day_offset_alike no_days

  pub wday_offset_alike : Alike u 1 wday_offset
  unfolding wday_offset
  wday_offset_alike = then_local plus_or_minus_alike (λ negative. then_local (free (named_local weekday)) (λ w. pure_local _))

  pub offset_alike : Alike u 0 offset
  unfolding offset
  offset_alike = then_local (maybe_local wday_offset_alike _) (λ w. then_local any_days_alike (λ d. pure_local _))

  pub back_entry_alike : Alike u 1 back_entry
  unfolding back_entry
  back_entry_alike = then_local (byte_local 45 refl refl) (λ _. then_local (free ordinal_local) (λ n. pure_local _))

  pub front_entry_alike : Alike u 1 front_entry
  unfolding front_entry
  front_entry_alike = then_local ordinal_local (λ n. then_local (maybe_local (then_local (byte_local 45 refl refl) (λ _. free ordinal_local)) n) (λ last. pure_local _))

  pub entry_alike : Alike u 1 entry
  unfolding entry
  entry_alike = or_local back_entry_alike front_entry_alike

  pub next_entry_alike : Alike u 1 next_entry
  unfolding next_entry
  next_entry_alike = then_local (byte_local 44 refl refl) (λ _. free entry_alike)

  pub entries_alike : Alike u 1 entries
  unfolding entries
  entries_alike = then_local entry_alike (λ e. then_local (many_local next_entry_alike) (λ es. pure_local _))

  pub last_weekday_alike : Alike u 1 last_weekday
  unfolding last_weekday
  last_weekday_alike = then_local (byte_local 45 refl refl) (λ _. free (named_local weekday))

  pub bracketed_alike : Alike u 1 bracketed
  unfolding bracketed
  bracketed_alike =
      then_local (byte_local 91 refl refl) (λ _. then_local (free entries_alike) (λ m.
      then_local (free (byte_local 93 refl refl)) (λ _. pure_local m)))

  pub until_weekday_alike : (first : Weekday) → Alike u 1 (until_weekday first)
  unfolding until_weekday
  until_weekday_alike first = then_local last_weekday_alike (λ last. pure_local _)

  pub with_entries_alike : (first : Weekday) → Alike u 1 (with_entries first)
  unfolding with_entries
  with_entries_alike first = then_local bracketed_alike (λ m. then_local any_days_alike (λ d. pure_local _))

  narrow_after_alike : (first : Weekday) → Alike u 0 (narrow_after first)
  unfolding narrow_after
  narrow_after_alike first = or_local (free (until_weekday_alike first)) (or_local (free (with_entries_alike first)) (pure_local _))

  pub weekday_after_alike : (m : Manner) (first : Weekday) → Alike u 0 (weekday_after m first)
  unfolding wide_after
  weekday_after_alike First first = narrow_after_alike first
  weekday_after_alike House first = narrow_after_alike first
  weekday_after_alike Second first = then_local (maybe_local last_weekday_alike (again first)) (λ last.
      then_local (maybe_local bracketed_alike no_marks) (λ m. then_local any_days_alike (λ d. pure_local _)))

  pub weekday_shape_alike : (m : Manner) → Alike u 2 (weekday_shape m)
  unfolding weekday_shape
  weekday_shape_alike m = then_local (named_local weekday) (weekday_after_alike m)

  pub holiday_after_alike : (kind : ℕ) → Alike u 0 (holiday_after kind)
  unfolding holiday_after
  holiday_after_alike kind = then_local any_days_alike (λ d. pure_local _)

  pub holiday_shape_alike : Alike u 2 holiday_shape
  unfolding holiday_shape
  holiday_shape_alike = then_local (name_local holiday) holiday_after_alike

-- the meanings refuse by 4 alone
flagged_refuses : (first last : Weekday) (days : ℤ) (starts ends : ℕ) → Refuses (flagged first last days starts ends)
unfolding flagged
flagged_refuses first last days starts ends = either Refuses (eqb starts 0 && eqb ends 0) (weekdays_of first last days 31 31) (weekdays_of first last days starts ends) tt tt

pub weekday_refuses : (r : RawWeekdays) → Refuses (weekday_meaning r)
unfolding weekday_meaning
weekday_refuses r =
    either Refuses (not ((r.marks).good && good_days r.days)) (Err Range) (flagged (r.first, r.odd_first) (r.last, r.odd_last) r.days (bits (r.marks).starts) (bits (r.marks).ends))
    (omega arith) (flagged_refuses _ _ _ _ _)

pub holiday_refuses : (h : Holiday) → Refuses (holiday_meaning h)
unfolding holiday_meaning
holiday_refuses h = either Refuses (not (good_days h.days)) (Err Range) (Ok (Holidays h)) (omega arith) tt

-- the items
module _ {u : List ℕ} where
  pub weekday_item_alike : (m : Manner) → Alike u 2 (weekday_item m)
  unfolding weekday_item
  weekday_item_alike m = item_alike (weekday_shape_alike m) weekday_meaning weekday_refuses

  pub holiday_item_alike : Alike u 2 holiday_item
  unfolding holiday_item
  holiday_item_alike = item_alike holiday_shape_alike holiday_meaning holiday_refuses
