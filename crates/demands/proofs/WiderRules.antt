-- The rules of a text, by the first edition and by the second: after a place where it reads nothing more, the first refuses the text.
use Rattle.std.specs.Prelude.{None, Option, Some}
use Prim.Native.Nat.{ℕ, zero, suc, ◌-◌, ◌<◌}
use mathlib.Core.Bool.{Bool, true, false, ◌&&◌}
use mathlib.Core.List.{List, [], ◌∷◌}
use mathlib.Core.Path.{◌≡◌, refl, sym}
use native.Mathlib.Omega.{arith}
use borrow.Author.Tests.{eqb-true, ne_eqb}
use lib.Dec.{eqb, ltb}
use lib.ListN.{length, get_or}
use Rattle.names.specs.Tests.{within}
use Rattle.names.specs.Read.{got, none, Reader, follow, nothing, pure, map, when, one, at_end}
use Rattle.names.specs.Chain.{before, last, chain_in, chain, skip}
use Rattle.names.specs.Texts.{byte, blank, blanks, comma}
use Rattle.names.specs.Numbers.{is_digit, digit, up_to, digits, hour}
use Rattle.names.specs.Names.{event}
use Rattle.names.specs.Names as names
use Rattle.names.specs.declared.Manner.{Manner}
use Rattle.names.specs.declared.Manner.TheVariants.{First, Second}
use Rattle.names.proofs.Laws.{one_is, inside, within_below}
use Rattle.names.proofs.Local.{past_one}
use Rattle.names.proofs.Search.{no_word}
use Rattle.names.proofs.Odd.{named_none}
use Rattle.names.proofs.Skips.{skip_stop, skip_sure}
use Rattle.records.specs.declared.Item.{Item}
use Rattle.times.specs.Times.{clock, event_with_offset, time}
use Rattle.times.specs.Spans.{span_shape, time_item}
use Rattle.items.specs.Musts.{missing, must}
use Rattle.records.specs.Words.{Placed}
use Rattle.items.specs.Kinds.{after_blank, item_of, item_in}
use Rattle.items.specs.declared.Kind.{Kind}
use Rattle.items.specs.declared.Kind.TheVariants.{Years, MonthDays, Weeks, WeekNumbers, Weekdays, LastWeekdays, Holidays, LastHolidays, Times}
use Rattle.items.proofs.Blanks.{blanks_again}
use Rattle.items.proofs.Standing.{name_none}
use Rattle.rules.specs.Comments.{no_comment, comment}
use Rattle.rules.specs.Modifiers.{tail_of, modifier}
use Rattle.rules.specs.Rows.{small, first, listed, following, is_wide}
use Rattle.rules.specs.Pieces.{item_from, goes_on, after_colon, colon_sign, colon, more, plain_end, end}
use Rattle.rules.specs.Rules.{opening, Rule, rule_of, after_opening, rule}
use Rattle.rules.specs.Separators.{comma_blank, bars, separator, next}
use Rattle.rules.specs.declared.Stage.{Stage}
use Rattle.rules.specs.declared.Stage.TheVariants.{Beginning, Always, Colon, After}
use Rattle.rules.proofs.Cut.{more_local}
use Rattle.text_rules.specs.Texts.{after_rule, parted, more_rules, no_more, rules}
use Rattle.demands.proofs.Wider.{Lost, Wide, same, Never, wide_branch, wide_then, wide_map, wide_or, Sign, Dead, bracket, signed, DeadAfter, weekday_wide, time_wide}

-- ---- items

-- the kinds of weekdays, and the stages after them
abbrev WeekKind : Kind → Type 0
WeekKind Years = ⊥
WeekKind MonthDays = ⊥
WeekKind Weeks = ⊥
WeekKind WeekNumbers = ⊥
WeekKind Weekdays = Unit {0}
WeekKind LastWeekdays = Unit {0}
WeekKind Holidays = ⊥
WeekKind LastHolidays = ⊥
WeekKind Times = ⊥

abbrev WeekStage : Stage → Type 0
WeekStage Beginning = ⊥
WeekStage Always = ⊥
WeekStage Colon = ⊥
WeekStage (After k) = WeekKind k

module _ (s : List ℕ) where
  abbrev DeadKind : Placed × Kind → ℕ → Type 0
  DeadKind x j = Dead s j × WeekKind x.1

  abbrev DeadStage : Placed × Stage → ℕ → Type 0
  DeadStage x j = Dead s j × WeekStage x.1

  of_wide : (k : Kind) (i : ℕ) → Wide (λ (a : Placed) j. Dead s j × WeekKind k) (item_of First k s i) (item_of Second k s i)
  unfolding item_of
  of_wide Years i = same
  of_wide MonthDays i = same
  of_wide Weeks i = same
  of_wide WeekNumbers i = same
  of_wide Weekdays i = wide_map (DeadAfter s) (λ (a : Placed) j. Dead s j × Unit {0}) s i (λ (a : Item). (a, i)) (weekday_wide s i) (λ a j d. (d, tt))
  of_wide LastWeekdays i = wide_map (DeadAfter s) (λ (a : Placed) j. Dead s j × Unit {0}) s i (λ (a : Item). (a, i)) (weekday_wide s i) (λ a j d. (d, tt))
  of_wide Holidays i = same
  of_wide LastHolidays i = same
  of_wide Times i = wide_map Never (λ (a : Placed) j. Dead s j × ⊥) s i (λ (a : Item). (a, i)) (time_wide s i) (λ a j d. absurd d)

  in_wide : (ks : List Kind) (i : ℕ) → Wide DeadKind (item_in First ks s i) (item_in Second ks s i)
  unfolding item_in
  in_wide [] i = same
  in_wide (k ∷ ks) i =
      wide_branch (λ (a : Placed) j. Dead s j × WeekKind k) DeadKind s i (λ (a : Placed). pure (a, k)) (λ (a : Placed). pure (a, k)) (item_in First ks) (item_in Second ks)
      (of_wide k i) (λ a j e. same) (λ a j e d. d) (in_wide ks i)

  -- ---- pieces

  from_wide : (ks : List Kind) (i : ℕ) → Wide DeadStage (item_from First ks s i) (item_from Second ks s i)
  from_wide ks i = wide_map DeadKind DeadStage s i (λ (a : Placed × Kind). (a.0, After a.1)) (in_wide ks i) (λ a j d. d)

  must_wide : (m n : Reader (Placed × Stage)) (i : ℕ) → Wide DeadStage (m s i) (n s i) → Wide DeadStage (must m s i) (must n s i)
  must_wide m n i w = wide_or DeadStage s i missing missing w same

  after_blank_wide : (ks : List Kind) (i : ℕ) → Wide DeadStage (after_blank (item_from First ks) s i) (after_blank (item_from Second ks) s i)
  after_blank_wide ks i = wide_then DeadStage s i (λ _. item_from First ks) (λ _. item_from Second ks) (blank s i) (λ _ j e. from_wide ks j)

  colon_wide : (i : ℕ) → Wide DeadStage (after_colon First s i) (after_colon Second s i)
  colon_wide i = must_wide (after_blank (item_from First small)) (after_blank (item_from Second small)) i (after_blank_wide small i)

  listed_wide : (k : Kind) (i : ℕ) → Wide DeadStage (must (item_from First (listed k)) s i) (must (item_from Second (listed k)) s i)
  listed_wide k i = must_wide (item_from First (listed k)) (item_from Second (listed k)) i (from_wide (listed k) i)

  goes_on_wide : (k : Kind) (i : ℕ) → Wide DeadStage (goes_on First k s i) (goes_on Second k s i)
  unfolding goes_on
  goes_on_wide k i = wide_then DeadStage s i (λ _. must (item_from First (listed k))) (λ _. must (item_from Second (listed k))) (comma s i) (λ _ j e. listed_wide k j)

  colon_item_wide : (k : Kind) (i : ℕ) → Wide DeadStage (colon First k s i) (colon Second k s i)
  unfolding colon
  colon_item_wide k i = wide_then DeadStage s i (λ _. after_colon First) (λ _. after_colon Second) (colon_sign k s i) (λ _ j e. colon_wide j)

  more_wide : (x : Stage) (i : ℕ) → Wide DeadStage (more First x s i) (more Second x s i)
  unfolding more
  more_wide Beginning i = from_wide first i
  more_wide Always i = same
  more_wide Colon i = colon_wide i
  more_wide (After k) i = wide_or DeadStage s i _ _ (goes_on_wide k i) (wide_or DeadStage s i _ _ (colon_item_wide k i) (after_blank_wide (following k) i))

  -- ---- after a dead place

  -- no time begins with a sign
  no_digit_lem : (k : ℕ) → Sign (get_or s k 0) → digit s k ≡ none
  unfolding digit is_digit within
  no_digit_lem k h = rw (one_is (within 48 57) refl s k refl (within_below 48 57 (get_or s k 0) (omega (arith, h.1))))

  no_hour : (k : ℕ) → Sign (get_or s k 0) → hour s k ≡ none
  unfolding digits up_to
  no_hour k h = rw (no_digit_lem k h)

  no_time : (k : ℕ) → Sign (get_or s k 0) → time_item First s k ≡ none
  unfolding time_item span_shape time clock event_with_offset byte
  no_time k h = rw (no_hour k h, named_none s k event (name_none s k event (no_word s k (omega (arith, h.1)))), one_is (eqb 40) refl s k refl (ne_eqb 40 (get_or s k 0) (λ q. omega (arith, h.0))))

  -- a blank begins with a byte 32
  blank_byte : (j : ℕ) {k : ℕ} → blank s j ≡ got tt k → get_or s j 0 ≡ 32
  unfolding blank blanks byte one
  blank_byte j {k} e = go (ltb j (length s)) (eqb 32 (get_or s j 0)) refl e
    where
      go : (t u : Bool) → eqb 32 (get_or s j 0) ≡ u →
          follow s j (follow s j (when (t && u) (got (get_or s j 0) (suc j))) (λ _. pure (tt {0})) nothing) (λ _. skip (eqb 32)) nothing ≡ got tt k → get_or s j 0 ≡ 32
      go true true h e = sym (eqb-true 32 (get_or s j 0) h)
      go true false h e = absurd (let z : ◌≡◌ {A = ℕ} 0 1 = cc in omega arith)
      go false u h e = absurd (let z : ◌≡◌ {A = ℕ} 0 1 = cc in omega arith)

  -- a byte that does not stand there
  no_byte : (b j : ℕ) → (0 ≡ b → ⊥) → (b ≡ get_or s j 0 → ⊥) → byte b s j ≡ none
  unfolding byte
  no_byte b j z h = rw (one_is (eqb b) (ne_eqb b 0 (λ q. z (sym q))) s j refl (ne_eqb b (get_or s j 0) h))

  -- no blank stands where a bracket does
  no_blank : (j : ℕ) → get_or s j 0 ≡ 91 → blank s j ≡ none
  unfolding blank
  no_blank j h = rw (no_byte 32 j (λ q. omega arith) (λ q. omega arith))

  no_comma : (j : ℕ) → Dead s j → comma s j ≡ none
  unfolding comma
  no_comma j (bracket h) = rw (no_byte 44 j (λ q. omega arith) (λ q. omega arith))
  no_comma j (signed k e h) = let b = blank_byte j e in rw (no_byte 44 j (λ q. omega arith) (λ q. omega arith))

  -- no time after a blank
  no_times : (j : ℕ) → Dead s j → after_blank (item_from First (Times ∷ [])) s j ≡ none
  unfolding item_in item_of
  no_times j (bracket h) = rw (no_blank j h)
  no_times j (signed k e h) = rw (e, no_time k h)

  dead_more : (k : Kind) (j : ℕ) → WeekKind k → Dead s j → more First (After k) s j ≡ none
  unfolding more goes_on colon colon_sign is_wide following
  dead_more Years j w d = absurd w
  dead_more MonthDays j w d = absurd w
  dead_more Weeks j w d = absurd w
  dead_more WeekNumbers j w d = absurd w
  dead_more Weekdays j w d = rw (no_comma j d, no_times j d)
  dead_more LastWeekdays j w d = rw (no_comma j d, no_times j d)
  dead_more Holidays j w d = absurd w
  dead_more LastHolidays j w d = absurd w
  dead_more Times j w d = absurd w

  -- no modifier
  no_modifier : (j : ℕ) → Dead s j → after_blank modifier s j ≡ none
  unfolding modifier comment
  no_modifier j (bracket h) = rw (no_blank j h)
  no_modifier j (signed k e h) = rw (e, named_none s k names.modifier (name_none s k names.modifier (no_word s k (omega (arith, h.1)))), no_byte 34 k (λ q. omega arith) (λ q. omega (arith, h.0)))

  dead_end : (k : Kind) (j : ℕ) → Dead s j → end (After k) s j ≡ got (tail_of 0 no_comment false) j
  unfolding end plain_end
  dead_end k j d = rw (no_modifier j d)

  -- the rule ends there
  dead_pieces : (n : ℕ) (x : Stage) (j : ℕ) → WeekStage x → Dead s j → chain_in (suc n) (more First) end x s j ≡ got ([], tail_of 0 no_comment false) j
  unfolding chain_in
  dead_pieces n Beginning j w d = absurd w
  dead_pieces n Always j w d = absurd w
  dead_pieces n Colon j w d = absurd w
  dead_pieces n (After k) j w d = rw (dead_more k j w d, dead_end k j d)

  -- what parts it from the next does not stand there
  no_next : (k : ℕ) → (get_or s k 0 ≡ 0 → ⊥) → (59 ≡ get_or s k 0 → ⊥) → (44 ≡ get_or s k 0 → ⊥) → (124 ≡ get_or s k 0 → ⊥) → next s k ≡ none
  unfolding next separator at_end comma_blank bars
  no_next k z a b c =
      let l = inside s k z in
      rw (ne_eqb k (length s) (λ q. omega arith), no_byte 59 k (λ q. omega arith) a, no_byte 44 k (λ q. omega arith) b, no_byte 124 k (λ q. omega arith) c)

  -- so the text is refused
  after_lost : (r : Rule) (j k : ℕ) → blanks s j ≡ got tt k → next s k ≡ none → Lost Never (after_rule r s j)
  unfolding missing blanks
  after_lost r j k e n = rw (e, n, (skip_sure (eqb 32) s k).1) tt

  dead_after : (r : Rule) (j : ℕ) → Dead s j → Lost Never (after_rule r s j)
  unfolding blanks
  dead_after r j (bracket h) =
      after_lost r j j (skip_stop (eqb 32) s j (inside s j (λ q. omega arith)) (ne_eqb 32 (get_or s j 0) (λ q. omega arith))) (no_next j (λ q. omega arith)
      (λ q. omega arith) (λ q. omega arith) (λ q. omega arith))
  dead_after r j (signed k e h) = after_lost r j k (blanks_again s j e).0 (no_next k (λ q. omega (arith, h.0)) (λ q. omega (arith, h.1)) (λ q. h.2 (sym q)) (λ q. omega (arith, h.1)))

  -- ---- rules

  -- the pieces of a rule, by fuel that is enough
  pieces_wide : (n : ℕ) (x : Stage) (i : ℕ) → length s - i < n → Wide (DeadAfter s) (chain_in n (more First) end x s i) (chain_in n (more Second) end x s i)
  unfolding chain_in
  pieces_wide zero x i h = absurd (omega arith)
  pieces_wide (suc n) x i h =
      wide_branch DeadStage (DeadAfter s) s i (λ a. map (before a.0) (chain_in n (more First) end a.1)) (λ a. map (before a.0) (chain_in n (more Second) end
      a.1)) (map last (end x)) (map last (end x)) (more_wide x i)
      (λ a j e. let p = past_one (more_local {u = []} First x) e in wide_map (DeadAfter s) (DeadAfter s) s j (before a.0) (pieces_wide n a.1 j (omega (arith, p))) (λ r k d. d))
      (λ a j e d. let p = past_one (more_local {u = []} First x) e in ends n a j (omega (arith, p)) d)
      same
    where
      ends : (n : ℕ) (a : Placed × Stage) (j : ℕ) → length s - j < n → DeadStage a j → Lost (DeadAfter s) (map (before a.0) (chain_in n (more First) end a.1) s j)
      ends zero a j h d = absurd (omega arith)
      ends (suc n) a j h d = rw (dead_pieces n a.1 j d.1 d.0) d.0

  rule_wide : (separator i : ℕ) → Wide (DeadAfter s) (rule First separator s i) (rule Second separator s i)
  unfolding rule after_opening chain
  rule_wide separator i =
      wide_then (DeadAfter s) s i (after_opening First i separator) (after_opening Second i separator) (opening s i) (λ o j e.
      wide_map (DeadAfter s) (DeadAfter s) s j (rule_of i separator o.comment) (pieces_wide (suc (length s)) o.stage j (omega arith)) (λ r k d. d))

  parted_wide : (separator i : ℕ) → Wide Never (parted First separator s i) (parted Second separator s i)
  unfolding parted
  parted_wide separator i =
      let after : Rule → Reader (Rule × Option ℕ) = λ r. after_rule r in
      wide_branch (DeadAfter s) Never s i after after nothing nothing (rule_wide separator i) (λ r j e. same) (λ r j e d. dead_after r j d) same

  step_wide : (x : Option ℕ) (i : ℕ) → Wide Never (more_rules First x s i) (more_rules Second x s i)
  unfolding more_rules
  step_wide (Some separator) i = wide_then Never s i (λ _. parted First separator) (λ _. parted Second separator) (blanks s i) (λ _ j e. parted_wide separator j)
  step_wide None i = same

  chain_wide : (n : ℕ) (x : Option ℕ) (i : ℕ) → Wide Never (chain_in n (more_rules First) no_more x s i) (chain_in n (more_rules Second) no_more x s i)
  unfolding chain_in
  chain_wide zero x i = same
  chain_wide (suc n) x i =
      let later : Manner → Rule × Option ℕ → Reader (List Rule × Unit {0}) = λ m a. map (before a.0) (chain_in n (more_rules m) no_more a.1) in
      let done = map last (no_more x) in
      wide_branch Never Never s i (later First) (later Second) done done (step_wide x i)
      (λ a j e. wide_map Never Never s j (before a.0) (chain_wide n a.1 j) (λ r k d. d))
      (λ a j e d. absurd d)
      same

  -- the second edition reads the rules that the first does, or the first refuses them
  pub rules_wide : (p : ℕ) → Wide Never (rules First s p) (rules Second s p)
  unfolding rules chain
  rules_wide p = chain_wide (suc (length s)) (Some 0) p
