-- A bare end day is the first day of the calendar with that number that is not before the start.
use Rattle.std.specs.Prelude.{Option, Some, None, if◌then◌else◌}
use Prim.Native.Nat.{ℕ, suc, ◌+◌, ◌*◌, ◌≤◌, ◌<◌}
use mathlib.Core.Bool.{Bool, true, false, true≢false}
use mathlib.Core.Path.{◌≡◌, refl, sym, ◌∙◌}
use native.Mathlib.Omega.{arith}
use native.Mathlib.Decide.{dec_lt}
use borrow.Author.Tests.{le-leb, lt-leb, lt-ltb, le-ltb, ne_eqb}
use Rattle.names.proofs.Laws.{within_range}
use Rattle.calendar.specs.Calendar.{leap, is_day, last_of}
use Rattle.calendar.proofs.Months as calendar
use Rattle.records.specs.declared.Day.TheVariants.{Fixed}
use Rattle.dates.specs.BareDays.{Ymd, ymd, Before, by_year, by_month, by_day, Fits, months, First, dated, yearless, EndsOn}
use Rattle.dates.specs.BareEnds.{date_of, next_year, year_month, next_month, month_from, first_with, bare_end}
use Rattle.dates.specs.Meanings.{good_years, year_of}

-- a day of the calendar that is not before s is not in a month before
not_earlier : (x s : Ymd) → s.month ≤ 12 → 1 ≤ x.month → (Before x s → ⊥) → months s ≤ months x
not_earlier x s m n h = go (dec_lt x.year s.year) (dec_lt x.month s.month) (dec_lt s.year x.year)
  where
    go : Dec (x.year < s.year) → Dec (x.month < s.month) → Dec (s.year < x.year) → months s ≤ months x
    go (yes p) q r = absurd (h (by_year p))
    go (no p) q (yes r) = omega arith
    go (no p) (yes q) (no r) = absurd (h (by_month (omega arith) q))
    go (no p) (no q) (no r) = omega arith

-- of two days with one number, the earlier is in an earlier month
earlier_month : (x t : Ymd) → x.day ≡ t.day → x.month ≤ 12 → 1 ≤ t.month → Before x t → months x < months t
earlier_month x t d m n (by_year p) = omega arith
earlier_month x t d m n (by_month q p) = omega arith
earlier_month x t d m n (by_day q r p) = absurd (omega arith)

-- a day is not before another in an earlier month, or in the same month with a number that is not greater
not_before : (t s : Ymd) → t.month ≤ 12 → 1 ≤ s.month → months s ≤ months t → (months t ≡ months s → s.day ≤ t.day) → Before t s → ⊥
not_before t s m n h k (by_year p) = omega arith
not_before t s m n h k (by_month q p) = omega arith
not_before t s m n h k (by_day q r p) = omega (arith, k (omega arith))

-- a month without a day e is not December, and the next month has one
module _ (y n e : ℕ) (a : 1 ≤ n) (b : n ≤ 12) (one : 1 ≤ e) (last : e ≤ 31) (lacks : is_day y n e ≡ false) where
  short : last_of y n < 31
  short = go (dec_lt (last_of y n) e)
    where
      go : Dec (last_of y n < e) → last_of y n < 31
      go (yes p) = omega arith
      go (no p) = absurd (true≢false (sym (calendar.day_there y n e a b one (omega arith)) ∙ lacks))

  not_december : n < 12
  not_december = go (dec_lt n 12)
    where
      go : Dec (n < 12) → n < 12
      go (yes p) = p
      go (no p) = let q : n ≡ 12 = omega arith in absurd (let h = rw q at short in omega (arith, calendar.december y))

  then_there : is_day y (suc n) e ≡ true
  then_there = calendar.day_there y (suc n) e (omega arith) not_december one (omega (arith, calendar.one_of_two y n short))

-- a bare day e after day d of month m of year y
module _ (y m d e : ℕ) where
  -- where the end is found: in the start's year or, where it is later, the next; and in which month
  data Found : Bool → ℕ → Type 0 where
    same : d ≤ e → is_day y m e ≡ true → Found false m
    passed : d ≤ e → is_day y m e ≡ false → m < 12 → Found false (suc m)
    next : e < d → m < 12 → is_day y (suc m) e ≡ true → Found false (suc m)
    next_passed : e < d → suc m < 12 → is_day y (suc m) e ≡ false → Found false (suc (suc m))
    january : e < d → m ≡ 12 → Found true 1

  -- the day found
  abbrev on : Bool → ℕ → Ymd
  on later n = ymd (if later then suc y else y) n e

  module _ (lo : 1 ≤ m) (hi : m ≤ 12) (one : 1 ≤ e) (last : e ≤ 31) where
    -- it is found
    found : (later : Bool) × (n : ℕ) × Found later n
    found = go (dec_lt e d) (dec_lt m 12) (is_day y m e) refl (is_day y (suc m) e) refl
      where
        go : Dec (e < d) → Dec (m < 12) → (t : Bool) → is_day y m e ≡ t → (u : Bool) → is_day y (suc m) e ≡ u → (later : Bool) × (n : ℕ) × Found later n
        go (no p) q true r u w = (false, m, same (omega arith) r)
        go (no p) q false r u w = (false, suc m, passed (omega arith) r (not_december y m e lo hi one last r))
        go (yes p) (yes q) t r true w = (false, suc m, next p q w)
        go (yes p) (yes q) t r false w = (false, suc (suc m), next_passed p (not_december y (suc m) e (omega arith) q one last w) w)
        go (yes p) (no q) t r u w = (true, 1, january p (omega arith))

    abbrev start : Ymd
    start = ymd y m d

    -- a day that fits
    module _ (x : Ymd) (f : Fits start e x) where
      month_of : (1 ≤ x.month) × (x.month ≤ 12)
      month_of = (calendar.day_range x.year x.month x.day f.is_a_day).0

      not_earlier_than : months start ≤ months x
      not_earlier_than = not_earlier x start hi month_of.0 f.not_before

      -- it is not in the start's month if its number is less than the start's
      not_there : e < d → months start < months x
      not_there l = go (dec_lt (months start) (months x))
        where
          go : Dec (months start < months x) → months start < months x
          go (yes p) = p
          go (no p) = absurd (f.not_before (by_day (omega (arith, month_of, not_earlier_than)) (omega (arith, month_of, not_earlier_than)) (omega (arith, f.number))))

      -- and not in a month that lacks it
      not_in : (n : ℕ) → 1 ≤ n → n ≤ 12 → is_day y n e ≡ false → y * 12 + n ≤ months x → y * 12 + n < months x
      not_in n a b lacks h = go (dec_lt (y * 12 + n) (months x))
        where
          go : Dec (y * 12 + n < months x) → y * 12 + n < months x
          go (yes p) = p
          go (no p) =
              let u : x.year ≡ y = omega (arith, month_of) in
              let v : x.month ≡ n = omega (arith, month_of) in
              let w = f.number in
              let z : is_day y n e ≡ true = rw (← u, ← v, ← w) f.is_a_day in
              absurd (true≢false (sym z ∙ lacks))

    -- a day of the calendar with number e that is not before the start, and which none that fits comes before in an earlier month
    first_is : (t : Ymd) → t.day ≡ e → is_day t.year t.month t.day ≡ true → months start ≤ months t → months t ≤ months start + 2 → (months t ≡ months start → d ≤ e) →
        ((x : Ymd) → Fits start e x → months t ≤ months x) → First start e t
    first_is t k c g h l r =
        let n = (calendar.day_range t.year t.month t.day c).0 in
        record {
          fits = record { number = k; is_a_day = c; not_before = not_before t start n.1 lo g (λ q. omega (arith, l q)) };
          none_between = λ x f b. let z = earlier_month x t (f.number ∙ sym k) (month_of x f).1 n.0 b in omega (arith, z, r x f);
          near = h;
        }

    -- what is found is the first
    first : {later : Bool} {n : ℕ} → Found later n → First start e (on later n)
    first (same p q) = first_is (on false m) refl q (omega arith) (omega arith) (λ _. p) not_earlier_than
    first (passed p q r) =
        first_is (on false (suc m)) refl (then_there y m e lo hi one last q) (omega arith) (omega arith) (λ z. omega arith) (λ x f. omega (
          arith,
          not_in x f m lo hi q
              (not_earlier_than x f),
        ))
    first (next p q r) = first_is (on false (suc m)) refl r (omega arith) (omega arith) (λ z. omega arith) (λ x f. omega (arith, not_there x f p))
    first (next_passed p q r) =
        first_is (on false (suc (suc m))) refl (then_there y (suc m) e (omega arith) (omega arith) one last r) (omega arith) (omega arith) (λ z. omega arith)
        (λ x f. omega (arith, not_in x f (suc m) (omega arith) (omega arith) r (omega (arith, not_there x f p))))
    first (january p q) =
        first_is (on true 1) refl (calendar.day_there (suc y) 1 e (omega arith) (omega arith) one (omega (arith, calendar.january (suc y)))) (omega arith) (omega arith)
        (λ z. omega arith) (λ x f. omega (arith, not_there x f p))

    -- and it is the end by the definition, in a year k whose months have the same days; the next year is k's
    module _ (k : ℕ) (alike : (n : ℕ) → is_day k n e ≡ is_day y n e) where
      ended : {later : Bool} {n : ℕ} → Found later n → bare_end (year_month k m) d e ≡ date_of (if later then next_year k else k) (Fixed n e)
      unfolding bare_end month_from first_with next_month
      ended (same p q) = rw (le-leb d e p, alike m ∙ q)
      ended (passed p q r) = rw (le-leb d e p, alike m ∙ q, lt-ltb m 12 r)
      ended (next p q r) = rw (lt-leb d e p, lt-ltb m 12 q, alike (suc m) ∙ r)
      ended (next_passed p q r) = rw (lt-leb d e p, lt-ltb m 12 (omega arith), alike (suc m) ∙ r, lt-ltb (suc m) 12 q)
      ended (january p q) = rw (lt-leb d e p, le-ltb m 12 (omega arith), calendar.day_there (next_year k) 1 e (omega arith) (omega arith) one (omega (arith, calendar.january (next_year k))))

    -- with a year
    with_year : 1 ≤ y → (t : Ymd) × (bare_end (year_month y m) d e ≡ dated t) × First start e t
    unfolding next_year
    with_year h = go found.0 found.1 found.2
      where
        go : (later : Bool) (n : ℕ) → Found later n → (t : Ymd) × (bare_end (year_month y m) d e ≡ dated t) × First start e t
        go true n f = (on true n, ended y (λ _. refl) f ∙ rw (ne_eqb y 0 (λ z. omega arith)), first f)
        go false n f = (on false n, ended y (λ _. refl) f, first f)

    -- without a year, in every leap year
    without_year : leap y ≡ true → (t : Ymd) × (bare_end (year_month 0 m) d e ≡ yearless t) × First start e t
    unfolding is_day next_year
    without_year h = go found.0 found.1 found.2
      where
        go : (later : Bool) (n : ℕ) → Found later n → (t : Ymd) × (bare_end (year_month 0 m) d e ≡ yearless t) × First start e t
        go true n f = (on true n, ended 0 (λ i. rw (calendar.as_leap y i h)) f, first f)
        go false n f = (on false n, ended 0 (λ i. rw (calendar.as_leap y i h)) f, first f)

-- the same for a year that may be left out
pub ends_on : (y : Option ℕ) (m d e : ℕ) → good_years y ≡ true → 1 ≤ m → m ≤ 12 → 1 ≤ e → e ≤ 31 → EndsOn y m d e (bare_end (year_month (year_of y) m) d e)
ends_on None m d e g a b one last = λ y h. without_year y m d e a b one last h
ends_on (Some y) m d e g a b one last = with_year y m d e a b one last (omega (arith, within_range 1900 9999 y g))
