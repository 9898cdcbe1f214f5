-- What stands at a place, from the name or the year that is found there.
use Rattle.std.specs.Prelude.{Some, None}
use Prim.Native.Nat.{ℕ, suc, ◌+◌, ◌-◌, ◌*◌, ◌≤◌}
use mathlib.Core.Bool.{Bool, true, false, ◌&&◌, ◌||◌, true≢false}
use mathlib.Core.List.{List}
use mathlib.Core.Path.{◌≡◌, refl, sym, ap, ◌∙◌}
use native.Mathlib.Omega.{arith}
use borrow.Author.Tests.{eq-eqb, ne_eqb, eqb-true, eqb-false}
use lib.Dec.{eqb, ltb}
use lib.ListN.{length, get_or}
use Rattle.names.specs.Tests.{within}
use Rattle.names.specs.Read.{Read, got, none, refused, Reader, follow, nothing, pure, unless, when, one, ◌>>◌}
use Rattle.names.specs.Texts.{byte, blank, blanks}
use Rattle.names.specs.Numbers.{is_digit, digit, enough, up_to, digits, clock_after, number, year, hour}
use Rattle.names.specs.declared.Manner.{Manner}
use Rattle.names.specs.Spellings.{odd, named, spelled}
use Rattle.names.specs.Names.{Word, word, name, weekday, month, event, easter, holiday, week}
use Rattle.names.proofs.Laws.{one_is, within_above, within_range}
use Rattle.names.proofs.Search.{no_word, word_letter}
use Rattle.names.proofs.Odd.{named_got, named_none, spelled_got, spelled_none}
use Rattle.records.specs.declared.Item.{Item}
use Rattle.records.proofs.Anywhere.{item_after_lem}
use Rattle.times.specs.Times.{clock, event_alone, event_with_offset, time}
use Rattle.times.specs.Spans.{span_after, span_shape, time_item, event_item_after}
use Rattle.times.specs.Meanings.{span_meaning}
use Rattle.days.specs.Weekdays.{weekday_after, weekday_shape, weekday_meaning, weekday_item, weekday_item_after}
use Rattle.days.specs.Holidays.{holiday_after, holiday_shape, holiday_meaning, holiday_item, holiday_item_after}
use Rattle.dates.specs.Dates.{optional_year, day_after}
use Rattle.dates.specs.Years.{year_after, year_shape, year_meaning, year_item, year_item_after}
use Rattle.dates.specs.MonthDays.{month_item_after, month_day_after, month_day_item}
use Rattle.dates.specs.Weeks.{week_shape, week_item}
use Rattle.items.specs.Musts.{missing_at, missing, must}
use Rattle.records.specs.Words.{Placed}
use Rattle.items.specs.Kinds.{after_blank, at, weeks, item_of}
use Rattle.items.specs.Sets.{begins_with}
use Rattle.items.specs.Seen.{at_place, place_after, place_of, month_day_named, after_name}
use Rattle.items.specs.declared.Kind.{Kind}
use Rattle.items.proofs.Blanks.{blanks_again}
use Rattle.items.specs.declared.Kind.TheVariants.{Years, MonthDays, Weeks, WeekNumbers, Weekdays, LastWeekdays, Holidays, LastHolidays, Times}

module _ (s : List ℕ) (i : ℕ) where
  -- no item, and so none at its place
  pub none_at : {r : Read Item} → r ≡ none → at_place s i i r ≡ none
  none_at e = rw e

  -- an item at its place, from what was read
  pub item_at : {r t : Read Item} → r ≡ t → at_place s i i r ≡ at_place s i i t
  item_at e = rw e

  -- a name of a kind, from the name that stands here
  pub name_is : {k v j : ℕ} (x : ℕ) → word s i ≡ got (k, v) j → k ≡ x → name x s i ≡ got v j
  unfolding name
  name_is x w e = rw (w, eq-eqb _ x e)

  pub name_other : {k v j : ℕ} (x : ℕ) → word s i ≡ got (k, v) j → (k ≡ x → ⊥) → name x s i ≡ none
  unfolding name
  name_other x w e = rw (w, ne_eqb _ x e)

  pub name_none : (x : ℕ) → word s i ≡ none → name x s i ≡ none
  unfolding name
  name_none x w = rw w

  -- no year before a date
  no_year_before : year s i ≡ none → optional_year s i ≡ got None i
  unfolding optional_year
  no_year_before e = rw e

  -- ---- where no digit stands

  module _ (no : digit s i ≡ none) where
    hour_none : hour s i ≡ none
    unfolding digits up_to
    hour_none = rw no

    year_none : year s i ≡ none
    unfolding number digits up_to
    year_none = rw no

    week_none : week_item s i ≡ none
    unfolding week_item week_shape number digits up_to
    week_none = rw no

    clock_none : clock s i ≡ none
    unfolding clock
    clock_none = rw hour_none

  -- ---- where a name stands

  module _ (m : Manner) {k v j : ℕ} (w : word s i ≡ got (k, v) j) where
    -- a byte from 65 on, and so no sign below
    not_below : (p : ℕ → Bool) → p 0 ≡ false → ((b : ℕ) → 65 ≤ b → p b ≡ false) → one p s i ≡ none
    not_below p z h = one_is p z s i refl (h (get_or s i 0) (word_letter s i w))

    no_digit_lem : digit s i ≡ none
    unfolding digit is_digit within
    no_digit_lem = rw (not_below (within 48 57) refl (λ b h. within_above 48 57 b (omega arith) (omega arith)))

    no_bracket : event_with_offset s i ≡ none
    unfolding event_with_offset byte
    no_bracket = rw (not_below (eqb 40) refl (λ b h. ne_eqb 40 b (λ e. omega arith)))

    -- a time that begins with an event, or none
    timed : k ≡ event → time s i ≡ got (event_alone (v, odd event s i j)) j
    unfolding time
    timed e = rw (clock_none no_digit_lem, named_got s i event (name_is event w e))

    pub event_time_lem : k ≡ event → time_item m s i ≡ event_item_after m i v s j
    unfolding time_item span_shape event_item_after
    event_time_lem e = item_after_lem time span_after (span_meaning m) (timed e)

    pub other_time : (k ≡ event → ⊥) → time_item m s i ≡ none
    unfolding time_item span_shape time
    other_time e = rw (clock_none no_digit_lem, named_none s i event (name_other event w e), no_bracket)

    -- a weekday, a holiday
    pub is_weekday : k ≡ weekday → weekday_item m s i ≡ weekday_item_after m i v s j
    unfolding weekday_item weekday_shape weekday_item_after
    is_weekday e = item_after_lem (named weekday) (weekday_after m) weekday_meaning (named_got s i weekday (name_is weekday w e))

    pub no_weekday : (k ≡ weekday → ⊥) → weekday_item m s i ≡ none
    unfolding weekday_item weekday_shape
    no_weekday e = rw (named_none s i weekday (name_other weekday w e))

    pub is_holiday : k ≡ holiday → holiday_item s i ≡ holiday_item_after i v s j
    unfolding holiday_item holiday_shape holiday_item_after
    is_holiday e = item_after_lem (name holiday) holiday_after holiday_meaning (name_is holiday w e)

    pub no_holiday : (k ≡ holiday → ⊥) → holiday_item s i ≡ none
    unfolding holiday_item holiday_shape
    no_holiday e = rw (name_other holiday w e)

    -- no year; a month day without one
    pub no_year : year_item s i ≡ none
    unfolding year_item year_shape
    no_year = rw (year_none no_digit_lem)

    pub month_day_lem : month_day_item s i ≡ month_day_named i (k, v) s j
    unfolding month_day_item
    month_day_lem = rw (no_year_before (year_none no_digit_lem), spelled_got s i w)

    -- none, where the name begins no date
    no_date : (k ≡ month → ⊥) → (k ≡ easter → ⊥) → month_day_item s i ≡ none
    unfolding month_day_after month_item_after day_after
    no_date e f = month_day_lem ∙ rw (ne_eqb k easter f, ne_eqb k month e)

    is_weeks : k ≡ week → weeks s i ≡ must (after_blank (at week_item)) s j
    unfolding weeks
    is_weeks e = rw (name_is week w e)

    no_weeks : (k ≡ week → ⊥) → weeks s i ≡ none
    unfolding weeks
    no_weeks e = rw (name_other week w e)

    -- of two tests that fail, each does
    neither : (a b : Bool) → (a || b) ≡ false → (a ≡ false) × (b ≡ false)
    neither true b e = absurd (true≢false e)
    neither false b e = (refl, e)

    -- an item of a kind that begins with no such name
    pub begun_none : (x : Kind) → begins_with k x ≡ false → item_of m x s i ≡ none
    unfolding item_of begins_with
    begun_none Years e = none_at no_year
    begun_none MonthDays e = let n = neither (eqb k month) (eqb k easter) e in none_at (no_date (eqb-false k month n.0) (eqb-false k easter n.1))
    begun_none Weeks e = no_weeks (eqb-false k week e)
    begun_none WeekNumbers e = none_at (week_none no_digit_lem)
    begun_none Weekdays e = none_at (no_weekday (eqb-false k weekday e))
    begun_none LastWeekdays e = none_at (no_weekday (eqb-false k weekday e))
    begun_none Holidays e = none_at (no_holiday (eqb-false k holiday e))
    begun_none LastHolidays e = none_at (no_holiday (eqb-false k holiday e))
    begun_none Times e = none_at (other_time (eqb-false k event e))

    -- after the name, by its kind
    after_weekday : k ≡ weekday → after_name m i k v ≡ weekday_item_after m i v
    unfolding after_name
    after_weekday e = rw (eq-eqb k weekday e)

    after_date : (t u : Bool) → eqb k month ≡ t → eqb k easter ≡ u → (t || u) ≡ true → after_name m i k v ≡ month_day_named i (k, v)
    unfolding after_name
    after_date true u e f h = let d = eqb-true k month e in rw (ne_eqb k weekday (λ q. omega arith), e)
    after_date false true e f h = let d = eqb-true k easter f in rw (ne_eqb k weekday (λ q. omega arith), e, f)
    after_date false false e f h = absurd (true≢false (sym h))

    after_event : k ≡ event → after_name m i k v ≡ event_item_after m i v
    unfolding after_name
    after_event e = rw (ne_eqb k weekday (λ q. omega arith), ne_eqb k month (λ q. omega arith), ne_eqb k easter (λ q. omega arith), eq-eqb k event e)

    after_holiday : k ≡ holiday → after_name m i k v ≡ holiday_item_after i v
    unfolding after_name
    after_holiday e = rw (ne_eqb k weekday (λ q. omega arith), ne_eqb k month (λ q. omega arith), ne_eqb k easter (λ q. omega arith), ne_eqb k event (λ q. omega arith), eq-eqb k holiday e)

    after_week : k ≡ week → after_name m i k v ≡ must (after_blank week_item)
    unfolding after_name
    after_week e =
        rw (
          ne_eqb k weekday (λ q. omega arith),
          ne_eqb k month (λ q. omega arith),
          ne_eqb k easter (λ q. omega arith),
          ne_eqb k event
              (λ q. omega arith),
          ne_eqb k holiday (λ q. omega arith),
          eq-eqb k week e,
        )

    -- what is missing is missing whatever was to stand there
    lacks : (p : ℕ) → missing {A = Placed} s j ≡ at_place s i p (missing s j)
    unfolding missing
    lacks p = go (blanks s j)
      where
        go : (b : Read (Unit {0})) → follow {B = Placed} s j b (λ _ s p. refused (missing_at s p) p) nothing ≡ at_place s i p (follow s j b (λ _ s p. refused (missing_at s p) p) nothing)
        go (got tt l) = refl
        go none = refl
        go (refused n q) = refl

    -- a name that begins a date is not `week`
    date_week : (t u : Bool) → eqb k month ≡ t → eqb k easter ≡ u → (t || u) ≡ true → k ≡ week → ⊥
    date_week true u e f h q = let d = eqb-true k month e in omega arith
    date_week false true e f h q = let d = eqb-true k easter f in omega arith
    date_week false false e f h q = true≢false (sym h)

    -- at the place of an item that begins with its name
    placed : {r : Read Item} {n : Reader Item} → (k ≡ week → ⊥) → r ≡ n s j → after_name m i k v ≡ n → at_place s i i r ≡ at_place s i (place_of k i s j) (after_name m i k v s j)
    unfolding place_of
    placed h e f = item_at e ∙ rw (ne_eqb k week h, f)

    -- a week at its number
    placed_week : k ≡ week → weeks s i ≡ at_place s i (place_of k i s j) (after_name m i k v s j)
    unfolding place_of
    placed_week e = is_weeks e ∙ rw (eq-eqb k week e, after_week e) (go (blank s j) refl)
      where
        go : (b : Read (Unit {0})) → blank s j ≡ b →
            follow s j (follow s j b (λ _. at week_item) nothing) pure missing ≡ at_place s i (place_after (blanks s j)) (follow s j (follow s j b
            (λ _. week_item) nothing) pure missing)
        go (got tt l) e = rw (blanks_again s j e).0 (number l (week_item s l))
          where
            number : (l : ℕ) (r : Read Item) → follow s j (follow s l r (λ a. pure (a, l)) nothing) pure missing ≡ at_place s i l (follow s j r pure missing)
            number l (got a q) = refl
            number l none = lacks l
            number l (refused n p) = refl
        go none e = lacks (place_after (blanks s j))
        go (refused n p) e = refl

    -- an item of a kind that begins with such a name is what stands after the name
    pub begun_is : (x : Kind) → begins_with k x ≡ true → item_of m x s i ≡ at_place s i (place_of k i s j) (after_name m i k v s j)
    unfolding item_of begins_with
    begun_is Years e = absurd (true≢false (sym e))
    begun_is MonthDays e = placed (date_week (eqb k month) (eqb k easter) refl refl e) month_day_lem (after_date (eqb k month) (eqb k easter) refl refl e)
    begun_is Weeks e = placed_week (eqb-true k week e)
    begun_is WeekNumbers e = absurd (true≢false (sym e))
    begun_is Weekdays e = let q = eqb-true k weekday e in placed (λ w. omega arith) (is_weekday q) (after_weekday q)
    begun_is LastWeekdays e = let q = eqb-true k weekday e in placed (λ w. omega arith) (is_weekday q) (after_weekday q)
    begun_is Holidays e = let q = eqb-true k holiday e in placed (λ w. omega arith) (is_holiday q) (after_holiday q)
    begun_is LastHolidays e = let q = eqb-true k holiday e in placed (λ w. omega arith) (is_holiday q) (after_holiday q)
    begun_is Times e = let q = eqb-true k event e in placed (λ w. omega arith) (event_time_lem q) (after_event q)

  -- ---- where no name stands

  module _ (w : word s i ≡ none) where
    -- none of the kinds that begin with a name
    pub weekday_none : (m : Manner) → at (weekday_item m) s i ≡ none
    unfolding weekday_item weekday_shape
    weekday_none m = rw (named_none s i weekday (name_none weekday w))

    pub holiday_none : at holiday_item s i ≡ none
    unfolding holiday_item holiday_shape
    holiday_none = rw (name_none holiday w)

    pub weeks_none : weeks s i ≡ none
    unfolding weeks
    weeks_none = rw (name_none week w)

-- ---- where a year stands

-- a digit that was read is the byte here, and the next place
digit_byte : (s : List ℕ) (i : ℕ) {b j : ℕ} → digit s i ≡ got b j → within 48 57 (get_or s i 0) ≡ true
unfolding digit one is_digit
digit_byte s i {b} {j} e = go (ltb i (length s)) (within 48 57 (get_or s i 0)) refl e
  where
    go : (t u : Bool) → within 48 57 (get_or s i 0) ≡ u → follow s i (when (t && u) (got (get_or s i 0) (suc i))) (λ x. pure (x - 48)) nothing ≡ got b j → within 48 57 (get_or s i 0) ≡ true
    go true true h q = h
    go true false h q = absurd (let z : ◌≡◌ {A = ℕ} 0 1 = cc in omega arith)
    go false u h q = absurd (let z : ◌≡◌ {A = ℕ} 0 1 = cc in omega arith)

-- no name
digit_no_word : (s : List ℕ) (i : ℕ) {b j : ℕ} → digit s i ≡ got b j → word s i ≡ none
digit_no_word s i e = no_word s i (omega (arith, within_range 48 57 (get_or s i 0) (digit_byte s i e)))

-- the first of digits that are wanted
digits_first : (n w a : ℕ) (s : List ℕ) (i : ℕ) {y d : ℕ} → up_to (suc n) (suc w) a s i ≡ got y d → (b : ℕ) × (j : ℕ) × (digit s i ≡ got b j) × (up_to n w (a * 10 + b) s j ≡ got y d)
unfolding up_to
digits_first n w a s i {y} {d} e = go (digit s i) refl e
  where
    go : (x : Read ℕ) → digit s i ≡ x → follow s i x (λ b. up_to n (suc w - 1) (a * 10 + b)) (enough (suc w) a) ≡ got y d →
        (b : ℕ) × (j : ℕ) × (digit s i ≡ got b j) × (up_to n w (a * 10 + b) s j ≡ got y d)
    go (got b j) h q = let z : w ≡ suc w - 1 = omega arith in (b, j, h, ap (λ (x : ℕ). up_to n x (a * 10 + b) s j) z ∙ q)
    go none h q = absurd (let p : none ≡ got y d = rw (ne_eqb (suc w) 0 (λ f. omega arith)) at q in let z : ◌≡◌ {A = ℕ} 0 1 = cc in omega arith)
    go (refused k p) h q = absurd (let z : ◌≡◌ {A = ℕ} 0 1 = cc in omega arith)

-- a year's digits
year_digits : (s : List ℕ) (i : ℕ) {y d : ℕ} → year s i ≡ got y d → (a : ℕ) × (j : ℕ) × (up_to 4 4 0 s i ≡ got a j)
unfolding number digits
year_digits s i {y} {d} e = go (up_to 4 4 0 s i) refl e
  where
    go : (x : Read ℕ) → up_to 4 4 0 s i ≡ x → follow s i x (λ a. unless clock_after >> pure a) nothing ≡ got y d → (a : ℕ) × (j : ℕ) × (up_to 4 4 0 s i ≡ got a j)
    go (got a j) h q = (a, j, h)
    go none h q = absurd (let z : ◌≡◌ {A = ℕ} 0 1 = cc in omega arith)
    go (refused k p) h q = absurd (let z : ◌≡◌ {A = ℕ} 0 1 = cc in omega arith)

module _ (s : List ℕ) (i : ℕ) {y d : ℕ} (e : year s i ≡ got y d) where
  pub year_no_word : word s i ≡ none
  year_no_word = let f = year_digits s i e in let g = digits_first 3 3 0 s i f.2 in digit_no_word s i g.2

  -- the item of a year
  pub year_item_lem : year_item s i ≡ year_item_after i y s d
  unfolding year_item year_shape year_item_after
  year_item_lem = item_after_lem year year_after year_meaning e

  -- the year belongs to a date: a blank, and a name that begins one
  pub dated_is : {j l : ℕ} {w : Word × Bool} → blank s d ≡ got tt j → spelled s j ≡ got w l → month_day_item s i ≡ month_day_after i (Some y) w s l
  unfolding month_day_item optional_year
  dated_is b w = rw (e, b, w)

  pub undated_name : {j : ℕ} → blank s d ≡ got tt j → spelled s j ≡ none → month_day_item s i ≡ none
  unfolding month_day_item optional_year
  undated_name b w = rw (e, b, w)

  pub undated_blank : blank s d ≡ none → month_day_item s i ≡ none
  unfolding month_day_item optional_year
  undated_blank b = rw (e, b, spelled_none s i year_no_word)

-- neither a name nor a year: nothing that begins with one
module _ (s : List ℕ) (i : ℕ) (e : year s i ≡ none) where
  pub no_month_day : word s i ≡ none → month_day_item s i ≡ none
  unfolding month_day_item
  no_month_day w = rw (no_year_before s i e, spelled_none s i w)

  pub no_year_item : year_item s i ≡ none
  unfolding year_item year_shape
  no_year_item = rw e
