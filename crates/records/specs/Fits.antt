-- Which records fit: each word in its kind's range, unused words 0, the last word, a place, from 0 up.
use Rattle.std.specs.Prelude.{ℕ, suc, List, [], ◌∷◌, Bool, true, false, ◌&&◌, ◌||◌, ℤ, pos, get_or, drop, if◌then◌else◌}
use Rattle.records.specs.Ranges as ranges
use Rattle.records.specs.Ranges.{Row, exactly, up}

-- word k of a record
abbrev pub word_at : List ℤ → ℕ → ℤ
word_at w k = get_or w k (pos 0)

-- the words from k on are in these ranges, one after the other
unfoldable pub passes : Row → ℕ → List ℤ → Bool
passes [] k w = true
passes (r ∷ rs) k w = r (word_at w k) && passes rs (suc k) w

-- these words are 0, but for the last, which is from 0 up
unfoldable pub unused : List ℤ → Bool
unused [] = false
unused (x ∷ []) = up x
unused (x ∷ y ∷ ys) = exactly 0 x && unused (y ∷ ys)

-- a date in the seven words from k on; only a fixed end may be in year 10000
unfoldable pub date_fits : ℤ → ℕ → List ℤ → Bool
date_fits last k w = passes (ranges.fixed last) k w || (passes ranges.weekday k w || passes ranges.easter k w)

-- a time in the two words from k on, a clock time up to the last one
unfoldable pub time_fits : ℤ → ℕ → List ℤ → Bool
time_fits last k w = passes (ranges.clock last) k w || passes ranges.event k w

abbrev pub is_kind : ℕ → List ℤ → Bool
is_kind k w = exactly k (word_at w 0)

-- a head
unfoldable pub head_fits : List ℤ → Bool
head_fits w = passes ranges.head 1 w && unused (drop 6 w)

-- an item of each kind
abbrev pub years_fit : List ℤ → Bool
years_fit w = passes ranges.years 1 w && unused (drop 4 w)

abbrev pub months_fit : List ℤ → Bool
months_fit w = passes ranges.months 1 w && unused (drop 4 w)

abbrev pub dates_fit : List ℤ → Bool
dates_fit w = date_fits (pos 9999) 1 w && (date_fits (pos 10000) 8 w && unused (drop 15 w))

abbrev pub weeks_fit : List ℤ → Bool
weeks_fit w = passes ranges.weeks 1 w && unused (drop 4 w)

abbrev pub weekdays_fit : List ℤ → Bool
weekdays_fit w = passes ranges.weekdays 1 w && unused (drop 6 w)

abbrev pub holidays_fit : List ℤ → Bool
holidays_fit w = passes ranges.holidays 1 w && unused (drop 3 w)

abbrev pub times_fit : List ℤ → Bool
times_fit w = time_fits (pos 1440) 1 w && (time_fits (pos 2880) 3 w && (passes ranges.tail 5 w && unused (drop 8 w)))

-- an item, by its kind
unfoldable pub item_fits : List ℤ → Bool
item_fits w =
    if is_kind 2 w then years_fit w
    else if is_kind 3 w then months_fit w
    else if is_kind 4 w then dates_fit w
    else if is_kind 5 w then weeks_fit w
    else if is_kind 6 w then weekdays_fit w
    else if is_kind 7 w then holidays_fit w
    else is_kind 8 w && times_fit w
