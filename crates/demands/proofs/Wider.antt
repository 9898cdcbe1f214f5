-- Two readings of one place, by the first edition and by the second: they find the same, or the first is lost.
use Rattle.std.specs.Prelude.{Err, Ok}
use Rattle.std.specs.Prelude.{if◌then◌else◌}
use Prim.Native.Nat.{ℕ, suc, ◌≤◌}
use mathlib.Core.Bool.{Bool, true, false, ◌&&◌, not}
use mathlib.Core.List.{List}
use mathlib.Core.Logic.{◌⊎◌, inl, inr}
use mathlib.Core.Path.{◌≡◌, refl, sym, ◌∙◌}
use native.Mathlib.Omega.{arith}
use borrow.Author.Tests.{eqb-true}
use lib.Dec.{eqb, ltb}
use lib.IntN.{ℤ}
use lib.ListN.{length, get_or}
use Rattle.names.specs.Read.{Read, got, none, refused, Reader, follow, nothing, pure, when, one}
use Rattle.names.specs.Chain.{skip}
use Rattle.names.specs.Texts.{byte, blank, blanks}
use Rattle.names.specs.Names.{weekday}
use Rattle.names.specs.Spellings.{named}
use Rattle.names.specs.declared.refusals.Reason.TheVariants.{Range}
use Rattle.names.specs.declared.Manner.TheVariants.{First, Second}
use Rattle.names.proofs.Laws.{one_is}
use Rattle.names.proofs.Skips.{skip_sure}
use Rattle.records.specs.Items.{judged}
use Rattle.records.specs.declared.Item.{Item}
use Rattle.records.specs.Items.{Meant}
use Rattle.times.specs.Meanings.{good_span, span_of, span_meaning}
use Rattle.times.specs.Spans.{span_shape, time_item}
use Rattle.times.specs.Shapes.{RawSpan, Alone, Open, Until}
use Rattle.days.specs.Offsets.{plus_or_minus, day_offset, no_days, any_days}
use Rattle.days.specs.Entries.{no_marks}
use Rattle.days.specs.Weekdays.{Weekday, again, raw_weekdays, plain, last_weekday, bracketed, until_weekday, with_entries, narrow_after, wide_after, weekday_after, weekday_shape, weekday_meaning, weekday_item}
use Rattle.days.specs.declared.RawWeekdays.{RawWeekdays}
use Rattle.days.specs.declared.Marks.{Marks}

-- ---- the relation

-- a reading is lost: it is refused, or it found a value of which P holds
abbrev pub Lost : {A : Type 0} → (A → ℕ → Type 0) → Read A → Type 0
Lost P (got a j) = P a j
Lost P none = ⊥
Lost P (refused k p) = Unit {0}

pub data Wide {A : Type 0} (P : A → ℕ → Type 0) : Read A → Read A → Type 0 where
  same : {x : Read A} → Wide P x x
  lost : {x y : Read A} → Lost P x → Wide P x y

-- no value is lost
abbrev pub Never : {A : Type 0} → A → ℕ → Type 0
Never a j = ⊥

-- what follows two readings, or is read instead
pub wide_branch : {A B : Type 0} (P : A → ℕ → Type 0) (Q : B → ℕ → Type 0) (s : List ℕ) (i : ℕ) (f g : A → Reader B) (n o : Reader B) {x y : Read A} → Wide P x y →
    ((a : A) (j : ℕ) → x ≡ got a j → Wide Q (f a s j) (g a s j)) → ((a : A) (j : ℕ) → x ≡ got a j → P a j → Lost Q (f a s j)) → Wide Q (n s i) (o s i) → Wide Q (follow s i x f n) (follow s i y g o)
wide_branch P Q s i f g n o (same {x = got a j}) F L N = F a j refl
wide_branch P Q s i f g n o (same {x = none}) F L N = N
wide_branch P Q s i f g n o (same {x = refused k p}) F L N = same
wide_branch P Q s i f g n o (lost {x = got a j} h) F L N = lost (L a j refl h)
wide_branch P Q s i f g n o (lost {x = none} h) F L N = absurd h
wide_branch P Q s i f g n o (lost {x = refused k p} h) F L N = lost tt

-- what follows what both read alike
pub wide_then : {A B : Type 0} (Q : B → ℕ → Type 0) (s : List ℕ) (i : ℕ) (f g : A → Reader B) (x : Read A) → ((a : A) (j : ℕ) → x ≡ got a j → Wide Q (f a s j) (g a s j)) →
    Wide Q (follow s i x f nothing) (follow s i x g nothing)
wide_then Q s i f g x F = wide_branch Never Q s i f g nothing nothing (same {x = x}) F (λ a j e h. absurd h) same

-- the same is made of both
pub wide_map : {A B : Type 0} (P : A → ℕ → Type 0) (Q : B → ℕ → Type 0) (s : List ℕ) (i : ℕ) (f : A → B) {x y : Read A} → Wide P x y → ((a : A) (j : ℕ) → P a j → Q (f a) j) →
    Wide Q (follow s i x (λ a. pure (f a)) nothing) (follow s i y (λ a. pure (f a)) nothing)
wide_map P Q s i f w h = wide_branch P Q s i (λ a. pure (f a)) (λ a. pure (f a)) nothing nothing w (λ a j e. same) (λ a j e p. h a j p) same

-- one or another
pub wide_or : {A : Type 0} (P : A → ℕ → Type 0) (s : List ℕ) (i : ℕ) (n o : Reader A) {x y : Read A} → Wide P x y → Wide P (n s i) (o s i) → Wide P (follow s i x pure n) (follow s i y pure o)
wide_or P s i n o w v = wide_branch P P s i pure pure n o w (λ a j e. same) (λ a j e p. p) v

-- ---- places after which the first edition reads nothing more

-- a plus or a minus
abbrev pub Sign : ℕ → Type 0
Sign b = (43 ≤ b) × (b ≤ 45) × (b ≡ 44 → ⊥)

-- a bracket stands there, or a blank and a plus or a minus
pub data Dead (s : List ℕ) (j : ℕ) : Type 0 where
  bracket : get_or s j 0 ≡ 91 → Dead s j
  signed : (k : ℕ) → blank s j ≡ got tt k → Sign (get_or s k 0) → Dead s j

module _ (s : List ℕ) where
  -- a blank is not refused
  blank_refused : (j : ℕ) {n p : ℕ} → blank s j ≡ refused n p → ⊥
  unfolding blank blanks byte one
  blank_refused j {n} {p} e = go (ltb j (length s) && eqb 32 (get_or s j 0)) e
    where
      go : (t : Bool) → follow s j (follow s j (when t (got (get_or s j 0) (suc j))) (λ _. pure (tt {0})) nothing) (λ _. skip (eqb 32)) nothing ≡ refused n p → ⊥
      go true e = let q : got tt (skip_sure (eqb 32) s (suc j)).0 ≡ refused n p = sym (skip_sure (eqb 32) s (suc j)).1 ∙ e in let z : ◌≡◌ {A = ℕ} 0 1 = cc in omega arith
      go false e = let z : ◌≡◌ {A = ℕ} 0 1 = cc in omega arith

  -- entries stand after a bracket
  entries_dead : (j : ℕ) → (bracketed s j ≡ none) ⊎ Dead s j
  unfolding bracketed byte
  entries_dead j = go (eqb 91 (get_or s j 0)) refl
    where
      go : (t : Bool) → eqb 91 (get_or s j 0) ≡ t → (bracketed s j ≡ none) ⊎ Dead s j
      go true e = inr (bracket (sym (eqb-true 91 (get_or s j 0) e)))
      go false e = inl (rw (one_is (eqb 91) refl s j refl e))

  -- an offset after a blank and a plus or a minus
  offset_dead : (j : ℕ) → (day_offset s j ≡ none) ⊎ Dead s j
  unfolding day_offset plus_or_minus byte
  offset_dead j = go (blank s j) refl
    where
      sign : (k : ℕ) → blank s j ≡ got tt k → (t u : Bool) → eqb 43 (get_or s k 0) ≡ t → eqb 45 (get_or s k 0) ≡ u → (day_offset s j ≡ none) ⊎ Dead s j
      sign k e true u h q = let b = eqb-true 43 (get_or s k 0) h in inr (signed k e (omega arith, omega arith, λ z. omega arith))
      sign k e false true h q = let b = eqb-true 45 (get_or s k 0) q in inr (signed k e (omega arith, omega arith, λ z. omega arith))
      sign k e false false h q = inl (rw (e, one_is (eqb 43) refl s k refl h, one_is (eqb 45) refl s k refl q))

      go : (b : Read (Unit {0})) → blank s j ≡ b → (day_offset s j ≡ none) ⊎ Dead s j
      go (got tt k) e = sign k e (eqb 43 (get_or s k 0)) (eqb 45 (get_or s k 0)) refl refl
      go none e = inl (rw e)
      go (refused n p) e = absurd (blank_refused j e)

  -- ---- weekdays

  abbrev pub DeadAfter : {A : Type 0} → A → ℕ → Type 0
  DeadAfter a j = Dead s j

  -- weekdays without entries and days, and what the second edition reads after them
  plain_wide : (first last : Weekday) (j : ℕ) → Wide DeadAfter (got (plain first last) j)
      (follow s j (follow s j (bracketed s j) pure (pure no_marks)) (λ m. λ s j. follow s j (any_days s j) (λ d. pure (raw_weekdays first last m d)) nothing) nothing)
  unfolding any_days
  plain_wide first last j = go (entries_dead j) (offset_dead j)
    where
      go : (bracketed s j ≡ none) ⊎ Dead s j → (day_offset s j ≡ none) ⊎ Dead s j → Wide DeadAfter (got (plain first last) j)
          (follow s j (follow s j (bracketed s j) pure (pure no_marks)) (λ m. λ s j. follow s j (any_days s j) (λ d. pure (raw_weekdays first last m d)) nothing) nothing)
      go (inl e) (inl f) = rw (e, f) same
      go (inl e) (inr d) = lost d
      go (inr d) f = lost d

  after_wide : (first : Weekday) (i : ℕ) → Wide DeadAfter (weekday_after First first s i) (weekday_after Second first s i)
  unfolding narrow_after wide_after until_weekday with_entries any_days
  after_wide first i = go (last_weekday s i) refl
    where
      -- after entries both read days
      days : (m : Marks) (j : ℕ) (r : Read ℤ) →
          Wide {A = RawWeekdays} DeadAfter (follow s i (follow s j (follow s j r pure (pure no_days)) (λ d. pure (raw_weekdays first (again first) m d)) nothing) pure (pure
          (plain first (again first)))) (follow s j (follow s j r pure (pure no_days)) (λ d. pure (raw_weekdays first (again first) m d)) nothing)
      days m j (got d k) = same
      days m j none = same
      days m j (refused k p) = same

      alone : last_weekday s i ≡ none → (r : Read Marks) → bracketed s i ≡ r → (day_offset s i ≡ none) ⊎ Dead s i → Wide DeadAfter (weekday_after First first s i) (weekday_after Second first s i)
      alone e (got m j) f d = rw (e, f) (days m j (day_offset s j))
      alone e none f (inl d) = rw (e, f, d) same
      alone e none f (inr d) = rw (e, f) (lost d)
      alone e (refused k p) f d = rw (e, f) (lost tt)

      go : (r : Read Weekday) → last_weekday s i ≡ r → Wide DeadAfter (weekday_after First first s i) (weekday_after Second first s i)
      go (got last j) e = rw e (plain_wide first last j)
      go none e = alone e (bracketed s i) refl (offset_dead i)
      go (refused k p) e = rw e (lost tt)

  -- a judgement reads nothing: a dead place stays one
  judged_dead : (p j : ℕ) (x : Meant) → Dead s j → Lost DeadAfter (judged p x s j)
  judged_dead p j (Ok a) d = d
  judged_dead p j (Err k) d = tt

  shape_wide : (i : ℕ) → Wide DeadAfter (weekday_shape First s i) (weekday_shape Second s i)
  unfolding weekday_shape
  shape_wide i = wide_then DeadAfter s i (weekday_after First) (weekday_after Second) (named weekday s i) (λ first j e. after_wide first j)

  pub weekday_wide : (i : ℕ) → Wide DeadAfter (weekday_item First s i) (weekday_item Second s i)
  unfolding weekday_item
  weekday_wide i =
      let meant : RawWeekdays → Reader Item = λ r. judged i (weekday_meaning r) in
      wide_branch DeadAfter DeadAfter s i meant meant nothing nothing (shape_wide i) (λ r j e. same) (λ r j e d. judged_dead i j (weekday_meaning r) d) same

  -- ---- times

  -- a time alone is refused by the first edition
  span_wide : (p j : ℕ) (r : RawSpan) → Wide Never (judged p (span_meaning First r) s j) (judged p (span_meaning Second r) s j)
  unfolding span_meaning
  span_wide p j r = go (good_span r) r
    where
      go : (b : Bool) (r : RawSpan) → Wide Never (judged p (if not b then Err Range else span_of First r) s j) (judged p (if not b then Err Range else span_of Second r) s j)
      go false r = same
      go true (Alone t) = lost tt
      go true (Open t) = same
      go true (Until a b t) = same

  pub time_wide : (i : ℕ) → Wide Never (time_item First s i) (time_item Second s i)
  unfolding time_item
  time_wide i = wide_then Never s i (λ r. judged i (span_meaning First r)) (λ r. judged i (span_meaning Second r)) (span_shape s i) (λ r j e. span_wide i j r)
