-- What dates and months mean: a refusal's number is never 0.
use Prim.Native.Nat.{ℕ}
use mathlib.Core.Bool.{not}
use native.Mathlib.Omega.{arith}
use Rattle.records.specs.declared.Day.{Day}
use Rattle.records.specs.declared.Day.TheVariants.{Fixed, Weekday, Easter}
use Rattle.records.specs.declared.Date.{Date}
use Rattle.records.specs.declared.DateOffset.{DateOffset}
use Rattle.records.specs.declared.Odd.{Odd}
use Rattle.records.proofs.Cut.{Refuses}
use Rattle.names.proofs.Laws.{either}
use Rattle.dates.specs.Meanings.{good_years, good_dates, dated, offset_of, odd_of, bare_odd, bare, ended, date_meaning, month_meaning}
use Rattle.dates.specs.declared.RawMonths.{RawMonths}
use Rattle.dates.specs.declared.RawEnd.{RawEnd}
use Rattle.dates.specs.declared.RawEnd.TheVariants.{Nothing, Plus, Until, Bare}
use Rattle.dates.specs.declared.RawDates.{RawDates}

bare_refuses : (s : Date) (o : DateOffset) (e : ℕ) (p : DateOffset) (x y : Odd) (d : Day) → Refuses (bare s o e p x y d)
bare_refuses s o e p x y (Fixed m d) = tt
bare_refuses s o e p x y (Weekday m w n) = tt
bare_refuses s o e p x y Easter = omega arith

ended_refuses : (s : Date) (o : DateOffset) (x : Odd) (e : RawEnd) → Refuses (ended s o x e)
ended_refuses s o x Nothing = tt
ended_refuses s o x Plus = tt
ended_refuses s o x (Until e p) = tt
ended_refuses s o x (Bare e p) = bare_refuses s o e (offset_of p) x (bare_odd p) s.day

pub date_refuses : (r : RawDates) → Refuses (date_meaning r)
unfolding date_meaning
date_refuses r = either Refuses (not (good_dates r)) _ _ (omega arith) (ended_refuses (dated r.date) (offset_of r.offset) (odd_of r.date r.offset) r.end)

pub month_refuses : (r : RawMonths) → Refuses (month_meaning r)
unfolding month_meaning
month_refuses r = either Refuses (not (good_years r.year)) _ _ (omega arith) tt
