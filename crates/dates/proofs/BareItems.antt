-- A bare end day that is read ends its date item on the first day of the calendar with that number, not before the start.
use Rattle.std.specs.Prelude.{Option, Ok, Err, if◌then◌else◌}
use Prim.Native.Nat.{ℕ, ◌≤◌}
use mathlib.Core.Bool.{Bool, true, false, not, and-eq-true_iff}
use mathlib.Core.List.{List}
use mathlib.Core.Path.{◌≡◌, refl, ap, sym}
use native.Mathlib.Omega.{arith}
use lib.Dec.{eqb}
use Rattle.names.specs.Tests.{within}
use Rattle.names.specs.Read.{Read, got, nothing, pure, here}
use Rattle.names.specs.Texts.{sign, blank}
use Rattle.names.specs.Numbers.{short}
use Rattle.names.specs.Names.{Word, weekday, month, easter}
use Rattle.names.specs.Spellings.{odd_from, named, spelled}
use Rattle.names.proofs.Found.{Finds, found_is, any, pure_finds, nothing_finds, then_finds, or_finds, both}
use Rattle.names.proofs.Laws.{within_range}
use Rattle.names.proofs.Search.{month_range, word_month}
use Rattle.records.specs.declared.Day.{Day}
use Rattle.records.specs.declared.Day.TheVariants.{Fixed, Weekday, Easter}
use Rattle.records.specs.Items.{judged}
use Rattle.records.specs.declared.DateSpan.{DateSpan}
use Rattle.records.specs.declared.Item.TheVariants.{Dates}
use Rattle.names.specs.declared.refusals.Reason.TheVariants.{Range}
use Rattle.days.specs.Offsets.{good_days}
use Rattle.dates.specs.BareDays.{BareItem, BareDays}
use Rattle.dates.specs.Dates.{Spelt, optional_year, nth, weekday_of, day_of, day_after, raw_date, date}
use Rattle.dates.specs.BareEnds.{date_of, year_month, bare_end}
use Rattle.dates.specs.Meanings.{good_dates, year_of, offset_of, odd_of, bare_odd, date_meaning}
use Rattle.dates.specs.MonthDays.{date_item_after, month_day_after, month_day_item}
use Rattle.dates.specs.declared.RawDate.{RawDate}
use Rattle.dates.specs.declared.RawEnd.TheVariants.{Bare}
use Rattle.dates.specs.declared.RawDates.{RawDates}
use Rattle.dates.proofs.BareDay.{ends_on}
use Rattle.dates.proofs.Good.{dates_good}

-- a fixed day is one of a month from 1 to 12
abbrev InYear : Day → Type 0
InYear (Fixed m d) = (1 ≤ m) × (m ≤ 12)
InYear (Weekday m w n) = Unit {0}
InYear Easter = Unit {0}

abbrev OfYear : Spelt → Type 0
OfYear d = InYear d.0

day_of_lem : (m : ℕ) → (1 ≤ m) × (m ≤ 12) → Finds OfYear (day_of m)
unfolding day_of weekday_of
day_of_lem m h = then_finds (any blank) (λ _ _. or_finds (then_finds (any short) (λ d _. pure_finds (Fixed m d, false) h)) of_weekday)
  where
    of_weekday : Finds OfYear (weekday_of m)
    of_weekday = then_finds (any (named weekday)) (λ w _.
        then_finds (any (sign "[")) (λ _ _. then_finds (any nth) (λ n _. then_finds (any (sign "]")) (λ _ _. pure_finds (Weekday m w.0 n, w.1) tt))))

day_after_lem : (w : Word) → month_range w ≡ true → Finds OfYear (day_after w)
unfolding day_after
day_after_lem w h = go (eqb w.0 easter) (eqb w.0 month) h
  where
    go : (t u : Bool) → (if u then within 1 12 w.1 else true) ≡ true → Finds OfYear (if t then pure (Easter, false) else if u then day_of w.1 else nothing)
    go true u h = pure_finds (Easter, false) tt
    go false true h = day_of_lem w.1 (within_range 1 12 w.1 h)
    go false false h = nothing_finds

-- a name with its spelling is the name
spelled_month : Finds (λ w. month_range w.0 ≡ true) spelled
unfolding spelled
spelled_month = then_finds (any here) (λ p _. then_finds word_month (λ w h. then_finds (any (odd_from w.0 p)) (λ o _. pure_finds (w, o) h)))

date_in_year : Finds (λ r. InYear r.day) date
unfolding date
date_in_year = then_finds (any optional_year) (λ y _. then_finds spelled_month (λ w h. then_finds (day_after_lem w.0 h) (λ d k. pure_finds (raw_date y w.1 d) k)))

-- where a date stands, the item is a date item
date_item : (s : List ℕ) (p : ℕ) (y : Option ℕ) (odd : Bool) (day : Spelt) (j : ℕ) → date s p ≡ got (raw_date y odd day) j → month_day_item s p ≡ date_item_after p y odd day s j
unfolding date month_day_item month_day_after
date_item s p y odd day j h =
    both s p _ _ _ (optional_year s p) (λ z i e. both s i _ _ _ (spelled s i) (λ w k e. both s k _ _ _ (day_after w.0 s k) (λ d l e. same z w.1 d l e) e) e) h
  where
    pairs : (a b : Spelt) → a.0 ≡ b.0 → a.1 ≡ b.1 → a ≡ b
    pairs (x, v) (z, w) f g = rw (f, g)

    same : (z : Option ℕ) (o : Bool) (d : Spelt) (l : ℕ) → ◌≡◌ {A = Read RawDate} (got (raw_date z o d) l) (got (raw_date y odd day) j) → date_item_after p z o d s l ≡ date_item_after p y odd day s j
    same z o d l e =
        let r : raw_date z o d ≡ raw_date y odd day = cc in
        let k : l ≡ j = cc in
        let q : d ≡ day = pairs d day (ap (λ (x : RawDate). x.day) r) (ap (λ (x : RawDate). x.odd_weekday) r) in
        rw (ap (λ (x : RawDate). x.year) r, ap (λ (x : RawDate). x.odd_name) r, q, k)

-- a date item that is accepted is good, and it ends as `bare_end` says
pub bare_days : BareDays
unfolding date_meaning date_item_after
bare_days s p y m d e b x q h = go (good_dates raw) refl (rw (date_item s p y b.odd (Fixed m d, false) b.after b.start, b.rest) at h)
  where
    raw : RawDates
    raw = record { date = raw_date y b.odd (Fixed m d, false); offset = b.offset; end = Bare e b.offset_end }

    span : DateSpan
    span =
        record {
          start = date_of (year_of y) (Fixed m d);
          start_offset = offset_of b.offset;
          end = bare_end (year_month (year_of y) m) d e;
          end_offset = offset_of b.offset_end;
          odd_start = odd_of raw.date b.offset;
          odd_end = bare_odd b.offset_end;
        }

    go : (t : Bool) → good_dates raw ≡ t → judged p (if not t then Err Range else Ok (Dates span)) s b.next ≡ got x q → BareItem y m d e x
    go true g k =
        let f = dates_good raw g in
        let n = found_is date_in_year b.start in
        let l = within_range 1 31 e ((and-eq-true_iff (within 1 31 e) (good_days b.offset_end.days)).0 f.end).0 in
        let z : Dates span ≡ x = cc in
        record { span = span; item = sym z; start = refl; end = ends_on y m d e f.years n.0 n.1 l.0 l.1 }
    go false g k = absurd (let z : ◌≡◌ {A = ℕ} 0 1 = cc in omega arith)
