-- What a record tells: the item of a record that fits is the one that has its words.
use Rattle.std.specs.Prelude.{Option, Some, None, if◌then◌else◌}
use Prim.Native.Nat.{ℕ, ◌+◌}
use native.Mathlib.Omega.{arith}
use mathlib.Core.List.{List, [], ◌∷◌}
use mathlib.Core.Bool.{Bool, true, false}
use mathlib.Core.Path.{◌≡◌, refl, sym, ap, ◌∙◌}
use lib.Dec.{eqb}
use lib.IntN.{ℤ, pos, negsuc}
use lib.ListN.{length}
use Rattle.records.specs.Words.{day_words, time_words, repeat_word, words_of, bit, placed_at}
use Rattle.records.specs.declared.Day.{Day}
use Rattle.records.specs.declared.Day.TheVariants.{Fixed, Weekday, Easter}
use Rattle.records.specs.declared.Date.{Date}
use Rattle.records.specs.declared.DateOffset.{DateOffset}
use Rattle.records.specs.declared.Time.{Time}
use Rattle.records.specs.declared.Time.TheVariants as time
use Rattle.records.specs.declared.Span.{Span}
use Rattle.records.specs.declared.DateSpan.{DateSpan}
use Rattle.records.specs.declared.Item.{Item}
use Rattle.records.specs.declared.Item.TheVariants.{Years, Months, Dates, Weeks, Weekdays, Holidays, Times}
use Rattle.records.specs.Fits.{word_at, is_kind, item_fits}
use Rattle.records.specs.Told.{no_odd, years_in, months_in, dates_in, weeks_in, weekdays_in, holidays_in, times_in, given, candidate, item_in, quiet}
use Rattle.records.proofs.Back.{item_words_lem}

-- ---- the words of an item tell it, its spelling flags aside: words read without ranges

-- a word as a number
abbrev nat_of : ℤ → ℕ
nat_of (pos n) = n
nat_of (negsuc n) = 0

abbrev nat : List ℤ → ℕ → ℕ
nat w k = nat_of (word_at w k)

-- a date by its form, a time by its kind, a repeat
abbrev day_by : ℕ → ℕ → ℕ → ℤ → Day
day_by form m d n = if eqb form 1 then Fixed m d else if eqb form 2 then Weekday m d n else Easter

abbrev time_by : ℕ → ℤ → Time
time_by kind x = if eqb kind 0 then time.Fixed (nat_of x) else if eqb kind 1 then time.Dawn x else if eqb kind 2 then time.Sunrise x else if eqb kind 3 then time.Sunset x else time.Dusk x

abbrev repeat_by : ℤ → Option ℕ
repeat_by (pos n) = Some n
repeat_by (negsuc n) = None

abbrev date_at : List ℤ → ℕ → Date
date_at w k = record { year = nat w (k + 1); day = day_by (nat w k) (nat w (k + 2)) (nat w (k + 3)) (word_at w (k + 4)) }

abbrev offset_at : List ℤ → ℕ → DateOffset
offset_at w k = record { wday = word_at w (k + 5); days = word_at w (k + 6) }

-- what a record's words seem to tell, without warnings
unfoldable raw : List ℤ → Item
raw w =
    if eqb (nat w 0) 2 then Years (record { first = nat w 1; last = nat w 2; step = nat w 3 })
    else if eqb (nat w 0) 3 then Months (record { year = nat w 1; first = nat w 2; last = nat w 3; odd_first = false; odd_last = false })
    else if eqb (nat w 0) 4 then
    Dates (record { start = date_at w 1; start_offset = offset_at w 1; end = date_at w 8; end_offset = offset_at w 8; odd_start = no_odd; odd_end = no_odd })
    else if eqb (nat w 0) 5 then Weeks (record { first = nat w 1; last = nat w 2; step = nat w 3 })
    else if eqb (nat w 0) 6 then
    Weekdays (record { first = nat w 1; last = nat w 2; odd_first = false; odd_last = false; days = word_at w 3; starts = nat w 4; ends = nat w 5 })
    else if eqb (nat w 0) 7 then Holidays (record { kind = nat w 1; days = word_at w 2 })
    else
    Times (record {
      start = time_by (nat w 1) (word_at w 2);
      end = time_by (nat w 3) (word_at w 4);
      repeats = repeat_by (word_at w 5);
      open_end = eqb (nat w 6) 1;
      point = eqb (nat w 7) 1;
      odd_start = false;
      odd_end = false;
    })

-- ---- the words of an item tell it

repeat_back : (r : Option ℕ) → repeat_by (repeat_word r) ≡ r
repeat_back None = refl
repeat_back (Some m) = refl

bit_back : (b : Bool) → eqb (nat_of (bit b)) 1 ≡ b
bit_back true = refl
bit_back false = refl

-- a time by its two words
abbrev kind_word : Time → ℕ
kind_word (time.Fixed m) = 0
kind_word (time.Dawn x) = 1
kind_word (time.Sunrise x) = 2
kind_word (time.Sunset x) = 3
kind_word (time.Dusk x) = 4

abbrev minute_word : Time → ℤ
minute_word (time.Fixed m) = pos m
minute_word (time.Dawn x) = x
minute_word (time.Sunrise x) = x
minute_word (time.Sunset x) = x
minute_word (time.Dusk x) = x

time_words_lem : (t : Time) → time_words t ≡ pos (kind_word t) ∷ minute_word t ∷ []
time_words_lem (time.Fixed m) = refl
time_words_lem (time.Dawn x) = refl
time_words_lem (time.Sunrise x) = refl
time_words_lem (time.Sunset x) = refl
time_words_lem (time.Dusk x) = refl

time_back : (t : Time) → time_by (kind_word t) (minute_word t) ≡ t
time_back (time.Fixed m) = refl
time_back (time.Dawn x) = refl
time_back (time.Sunrise x) = refl
time_back (time.Sunset x) = refl
time_back (time.Dusk x) = refl

times_back : (r : Span) → raw (words_of (Times r)) ≡ quiet (Times r)
unfolding raw words_of
times_back r = rw (time_words_lem r.start, time_words_lem r.end) (go (time_back r.start) (time_back r.end) (repeat_back r.repeats) (bit_back r.open_end) (bit_back r.point))
  where
    go : {a b c d : Time} {x y : Option ℕ} {p q u v : Bool} → a ≡ b → c ≡ d → x ≡ y → p ≡ q → u ≡ v →
        Times (record { start = a; end = c; repeats = x; open_end = p; point = u; odd_start = false; odd_end = false })
        ≡ Times (record { start = b; end = d; repeats = y; open_end = q; point = v; odd_start = false; odd_end = false })
    go e f g h i = rw (e, f, g, h, i)

-- a date by its five words
abbrev form_word : Day → ℕ
form_word (Fixed m d) = 1
form_word (Weekday m w n) = 2
form_word Easter = 3

abbrev month_word : Day → ℕ
month_word (Fixed m d) = m
month_word (Weekday m w n) = m
month_word Easter = 0

abbrev day_word : Day → ℕ
day_word (Fixed m d) = d
day_word (Weekday m w n) = w
day_word Easter = 0

abbrev nth_word : Day → ℤ
nth_word (Fixed m d) = pos 0
nth_word (Weekday m w n) = n
nth_word Easter = pos 0

day_words_lem : (y : ℕ) (d : Day) → day_words y d ≡ pos (form_word d) ∷ pos y ∷ pos (month_word d) ∷ pos (day_word d) ∷ nth_word d ∷ []
day_words_lem y (Fixed m d) = refl
day_words_lem y (Weekday m w n) = refl
day_words_lem y Easter = refl

day_back : (d : Day) → day_by (form_word d) (month_word d) (day_word d) (nth_word d) ≡ d
day_back (Fixed m d) = refl
day_back (Weekday m w n) = refl
day_back Easter = refl

dates_back : (r : DateSpan) → raw (words_of (Dates r)) ≡ quiet (Dates r)
unfolding raw words_of
dates_back r = rw (day_words_lem (r.start).year (r.start).day, day_words_lem (r.end).year (r.end).day) (go (day_back (r.start).day) (day_back (r.end).day))
  where
    go : {a b c d : Day} → a ≡ b → c ≡ d →
        Dates (record { start = record { year = (r.start).year; day = a }; start_offset = r.start_offset; end = record { year = (r.end).year; day = c }; end_offset = r.end_offset; odd_start = no_odd; odd_end = no_odd })
        ≡ Dates (record { start = record { year = (r.start).year; day = b }; start_offset = r.start_offset; end = record { year = (r.end).year; day = d }; end_offset = r.end_offset; odd_start = no_odd; odd_end = no_odd })
    go e f = rw (e, f)

raw_back : (a : Item) → raw (words_of a) ≡ quiet a
unfolding raw words_of
raw_back (Years r) = refl
raw_back (Months r) = refl
raw_back (Dates r) = dates_back r
raw_back (Weeks r) = refl
raw_back (Weekdays r) = refl
raw_back (Holidays r) = refl
raw_back (Times r) = times_back r

-- items with the same words differ in spelling flags only
pub words_tell : (a b : Item) → words_of a ≡ words_of b → quiet a ≡ quiet b
words_tell a b e = sym (raw_back a) ∙ ap raw e ∙ raw_back b

-- ---- the laws

quiet_told : (w : List ℤ) → quiet (candidate w) ≡ candidate w
unfolding candidate
quiet_told w = go (is_kind 2 w) (is_kind 3 w) (is_kind 4 w) (is_kind 5 w) (is_kind 6 w) (is_kind 7 w)
  where
    go : (a b c d f g : Bool) →
        quiet (if a then years_in w else if b then months_in w else if c then dates_in w else if d then weeks_in w else if f then weekdays_in w else if g then holidays_in w else times_in w)
        ≡ (if a then years_in w else if b then months_in w else if c then dates_in w else if d then weeks_in w else if f then weekdays_in w else if g then holidays_in w else times_in w)
    go true b c d f g = refl
    go false true c d f g = refl
    go false false true d f g = refl
    go false false false true f g = refl
    go false false false false true g = refl
    go false false false false false true = refl
    go false false false false false false = refl

-- a record fits exactly if it tells an item
pub told_fits : (w : List ℤ) (a : Item) → item_in w ≡ Some a → (item_fits w ≡ true) × (candidate w ≡ a)
unfolding item_in
told_fits w a e = go (item_fits w) refl e
  where
    go : (t : Bool) → item_fits w ≡ t → given t (candidate w) ≡ Some a → (item_fits w ≡ true) × (candidate w ≡ a)
    go true p q = (p, (cc))
    go false p q = let z : ◌≡◌ {A = ℕ} 0 1 = cc in absurd (omega arith)

pub fits_told : (w : List ℤ) → item_fits w ≡ true → item_in w ≡ Some (candidate w)
unfolding item_in
fits_told w e = rw e

-- the item has the record's words, the place aside, and no spelling flag
pub told_words : (w : List ℤ) (a : Item) → length w ≡ 16 → item_in w ≡ Some a → (words_of a ≡ placed_at 0 w) × (quiet a ≡ a)
told_words w a l e = let b = told_fits w a e in (rw b.1 at (item_words_lem w l b.0), rw b.1 at (quiet_told w))

-- a record that fits and has an item's words, the place aside, tells it
pub item_told : (w : List ℤ) (a : Item) → length w ≡ 16 → item_fits w ≡ true → placed_at 0 w ≡ words_of a → item_in w ≡ Some (quiet a)
item_told w a l e p = fits_told w e ∙ ap Some (sym (quiet_told w) ∙ words_tell (candidate w) a (item_words_lem w l e ∙ p))
