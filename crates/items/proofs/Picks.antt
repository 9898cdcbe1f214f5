-- An item of one of several kinds, from what stands at a place.
use Rattle.std.specs.Prelude.{Option, Some, None, if◌then◌else◌}
use Prim.Native.Nat.{ℕ}
use mathlib.Core.Bool.{Bool, true, false, ◌||◌, true≢false}
use mathlib.Core.List.{List, [], ◌∷◌, ◌++◌}
use mathlib.Core.Path.{◌≡◌, refl, sym, ◌∙◌}
use Rattle.names.specs.Read.{Read, got, none, refused, follow, pure}
use Rattle.names.specs.Numbers.{year}
use Rattle.names.specs.Names.{word}
use Rattle.records.specs.declared.Item.{Item}
use Rattle.names.specs.declared.Manner.{Manner}
use Rattle.records.specs.Words.{Placed}
use Rattle.items.specs.Kinds.{item_of, item_in}
use Rattle.items.specs.Sets.{has_kind, picked, yearly, numbered, kinds_of, begins_with}
use Rattle.items.specs.Seen.{at_place, place_of, with_kind, wished, after_name}
use Rattle.items.specs.declared.Kind.{Kind}
use Rattle.items.specs.declared.Kind.TheVariants.{Years, MonthDays, Weeks, Weekdays, LastWeekdays, Holidays, LastHolidays}
use Rattle.items.proofs.Standing.{none_at, begun_none, begun_is, weekday_none, holiday_none, weeks_none, no_month_day, no_year_item}

module _ (m : Manner) (s : List ℕ) (i : ℕ) where
  -- the first of several kinds, or the others
  pub item_first : (k : Kind) (ks : List Kind) → item_in m (k ∷ ks) s i ≡ follow s i (with_kind k (item_of m k s i)) pure (item_in m ks)
  unfolding item_in
  item_first k ks = go (item_of m k s i)
    where
      go : (r : Read Placed) → follow s i r (λ a. pure (a, k)) (item_in m ks) ≡ follow s i (with_kind k r) pure (item_in m ks)
      go (got a j) = refl
      go none = refl
      go (refused n p) = refl

  module _ (set : ℕ) (k : Kind) (ks : List Kind) where
    -- a kind that a set has, or has not
    pub pick_yes : has_kind set k ≡ true → item_in m (picked set (k ∷ ks)) s i ≡ follow s i (with_kind k (item_of m k s i)) pure (item_in m (picked set ks))
    unfolding picked
    pick_yes e = rw e (item_first k (picked set ks))

    pub pick_no : has_kind set k ≡ false → item_in m (picked set (k ∷ ks)) s i ≡ item_in m (picked set ks) s i
    unfolding picked
    pick_no e = rw e

    -- a kind of which no item stands here
    pub pick_none : item_of m k s i ≡ none → item_in m (picked set (k ∷ ks)) s i ≡ item_in m (picked set ks) s i
    pick_none e = go (has_kind set k) refl
      where
        go : (t : Bool) → has_kind set k ≡ t → item_in m (picked set (k ∷ ks)) s i ≡ item_in m (picked set ks) s i
        go true h = pick_yes h ∙ rw e
        go false h = pick_no h

  -- some kinds, and then others
  pub pick_then : (set : ℕ) (ks ls : List Kind) → item_in m (picked set (ks ++ ls)) s i ≡ follow s i (item_in m (picked set ks) s i) pure (item_in m (picked set ls))
  unfolding picked item_in
  pick_then set [] ls = refl
  pick_then set (k ∷ ks) ls = go (pick_then set ks ls) (has_kind set k) refl
    where
      Then : Type 0
      Then = item_in m (picked set (ks ++ ls)) s i ≡ follow s i (item_in m (picked set ks) s i) pure (item_in m (picked set ls))

      first : Then → (r : Read (Placed × Kind)) → follow s i r pure (item_in m (picked set (ks ++ ls))) ≡ follow s i (follow s i r pure (item_in m (picked set ks))) pure (item_in m (picked set ls))
      first h (got a j) = refl
      first h none = h
      first h (refused n p) = refl

      go : Then → (t : Bool) → has_kind set k ≡ t → item_in m (picked set (k ∷ ks ++ ls)) s i ≡ follow s i (item_in m (picked set (k ∷ ks)) s i) pure (item_in m (picked set ls))
      go e true h = pick_yes set k (ks ++ ls) h ∙ first e (with_kind k (item_of m k s i)) ∙ sym (rw (pick_yes set k ks h))
      go e false h = pick_no set k (ks ++ ls) h ∙ e ∙ sym (rw (pick_no set k ks h))

  -- neither of the kinds that may begin with a year
  pub pick_neither : (set : ℕ) → (has_kind set MonthDays || has_kind set Years) ≡ false → item_in m (picked set yearly) s i ≡ none
  unfolding picked item_in
  pick_neither set e = go (has_kind set MonthDays) (has_kind set Years) e refl refl
    where
      go : (a b : Bool) → (a || b) ≡ false → has_kind set MonthDays ≡ a → has_kind set Years ≡ b → item_in m (picked set yearly) s i ≡ none
      go true b h p q = absurd (true≢false h)
      go false true h p q = absurd (true≢false h)
      go false false h p q = pick_no set MonthDays (Years ∷ []) p ∙ pick_no set Years [] q

  -- nor where neither a year nor a name stands
  pub pick_yearless : (set : ℕ) → year s i ≡ none → word s i ≡ none → item_in m (picked set yearly) s i ≡ none
  unfolding picked item_in item_of
  pick_yearless set e w = pick_none set MonthDays (Years ∷ []) (none_at s i (no_month_day s i e w)) ∙ pick_none set Years [] (none_at s i (no_year_item s i e))

  -- ---- where a name stands

  module _ {n v j : ℕ} (w : word s i ≡ got (n, v) j) where
    -- what a wish comes to
    abbrev pub Wished : Option Kind → Read (Placed × Kind)
    Wished (Some k) = with_kind k (at_place s i (place_of n i s j) (after_name m i n v s j))
    Wished None = none

    -- where none stands after the name, none of any kind does
    none_after : after_name m i n v s j ≡ none → (ks : List Kind) → item_in m ks s i ≡ none
    unfolding item_in
    none_after e [] = refl
    none_after e (k ∷ ks) = item_first k ks ∙ go (none_after e ks) (begins_with n k) refl
      where
        go : item_in m ks s i ≡ none → (t : Bool) → begins_with n k ≡ t → follow s i (with_kind k (item_of m k s i)) pure (item_in m ks) ≡ none
        go l true h = rw (begun_is s i m w k h, e) l
        go l false h = rw (begun_none s i m w k h) l

    -- of several kinds, the one that begins with the name
    pub item_wished : (ks : List Kind) → item_in m ks s i ≡ Wished (wished n ks)
    unfolding wished item_in
    item_wished [] = refl
    item_wished (k ∷ ks) = item_first k ks ∙ go (item_wished ks) (begins_with n k) refl
      where
        first : (r : Read Item) → after_name m i n v s j ≡ r → follow s i (with_kind k (at_place s i (place_of n i s j) r)) pure (item_in m ks) ≡ with_kind k (at_place s i (place_of n i s j) r)
        first (got a l) e = refl
        first none e = none_after e ks
        first (refused t p) e = refl

        go : item_in m ks s i ≡ Wished (wished n ks) → (t : Bool) → begins_with n k ≡ t → follow s i (with_kind k (item_of m k s i)) pure (item_in m ks) ≡ Wished (if t then Some k else wished n ks)
        go l true h = rw (begun_is s i m w k h) (first (after_name m i n v s j) refl)
        go l false h = rw (begun_none s i m w k h) l

    -- as what the item is wanted, and what stands after the name
    module _ (ks : List Kind) {k : Kind} (e : wished n ks ≡ Some k) where
      pub wished_item : {a : Item} {l : ℕ} → after_name m i n v s j ≡ got a l → item_in m ks s i ≡ got ((a, place_of n i s j), k) l
      wished_item f = rw (item_wished ks, e, f)

      pub wished_refused : {t p : ℕ} → after_name m i n v s j ≡ refused t p → item_in m ks s i ≡ refused t p
      wished_refused f = rw (item_wished ks, e, f)

      pub wished_none : after_name m i n v s j ≡ none → item_in m ks s i ≡ none
      wished_none f = rw (item_wished ks, e, f)

    -- it is not wanted
    pub unwished : (ks : List Kind) → wished n ks ≡ None → item_in m ks s i ≡ none
    unwished ks e = rw (item_wished ks, e)

  -- ---- where no name stands

  module _ (w : word s i ≡ none) (set : ℕ) where
    -- the kinds that begin with a year, or else those that begin with other numbers
    pub item_unnamed : item_in m (kinds_of set) s i ≡ follow s i (item_in m (picked set yearly) s i) pure (item_in m (picked set numbered))
    unfolding kinds_of item_of
    item_unnamed = pick_then set yearly (Weeks ∷ Weekdays ∷ LastWeekdays ∷ Holidays ∷ LastHolidays ∷ numbered) ∙ go (item_in m (picked set yearly) s i)
      where
        go : (r : Read (Placed × Kind)) → follow s i r pure (item_in m (picked set
            (Weeks ∷ Weekdays ∷ LastWeekdays ∷ Holidays ∷ LastHolidays ∷ numbered))) ≡ follow s i r pure (item_in m (picked set numbered))
        go (got a j) = refl
        go none =
            pick_none set Weeks _ (weeks_none s i w) ∙ pick_none set Weekdays _ (weekday_none s i w m) ∙ pick_none set LastWeekdays _ (weekday_none s i w m)
            ∙ pick_none set Holidays _ (holiday_none s i w) ∙ pick_none set LastHolidays _ (holiday_none s i w)
        go (refused n p) = refl

-- what an item that begins with a name comes to
pub ruleset begins = (wished_item, wished_refused, wished_none, unwished)
