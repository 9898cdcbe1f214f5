-- A refusal leaves everything as it was, for each of the eighteen calls that read: whatever meets its promise, with a number other than 0.
use Rattle.std.specs.Prelude.{None, Option, Some}
use Prim.Native.Nat.{ℕ, suc, ◌/◌}
use mathlib.Core.List.{List, [], ◌∷◌}
use mathlib.Core.Bool.{true, false}
use mathlib.Core.Path.{◌≡◌, refl, sym, ap, subst}
use lib.Dec.{ltb}
use lib.IntN.{ℤ}
use lib.ListN.{length, take, get_or}
use Rattle.names.specs.declared.Manner.{Manner}
use Rattle.names.specs.Read.{Read, got, none, refused}
use Rattle.names.specs.Refusals.{no_room, too_long, unknown_edition}
use Rattle.lent_slots.specs.Tables.{Layout, laid}
use Rattle.rules.specs.Rules.{Rule}
use Rattle.text_rules.specs.Texts.{judged_rules, records}
use Rattle.sheet.specs.Sheets.{refusal, judged_text, text_of, sheet_by, table_after_as, sheet_reading_by, sheet_reading_bytes_by}
use Rattle.parts.specs.Parts.{part_end}
use Rattle.sheet.specs.PartReadings.{part_answer_of, with_next, part_to, part_refusal, part_by, part_reading_by, part_reading_bytes_by}
use Rattle.sheet.specs.declared.Answer.{Answer}
use Rattle.sheet.specs.declared.PartAnswer.{PartAnswer}
use Rattle.calls.specs.Editions.{edition_of, in_edition, sheet_reading_in, sheet_reading_bytes_in, part_reading_in, part_reading_bytes_in}
use Rattle.c_calls.specs.Calls.{sheet_call_by, sheet_call_in, part_call_by, part_call_in}
use Rattle.demands.specs.Untouched.{Untouched}
use Rattle.names.proofs.Laws.{either}
use Rattle.demands.proofs.Numbers.{part_cases}

-- ---- a refusal has no records

-- an answer that says so, with the records to write
abbrev Empty : ℕ → ℕ → ℕ → List (List ℤ) → Type 0
Empty number records warnings rs = Untouched number records warnings [] rs

abbrev EmptyText : Answer × List (List ℤ) → Type 0
EmptyText r = Empty r.0.number r.0.records r.0.warnings r.1

abbrev EmptyPart : PartAnswer × List (List ℤ) → Type 0
EmptyPart r = Empty r.0.number r.0.records r.0.warnings r.1

-- of a text
text_empty : (m : Manner) (s : List ℕ) (p n : ℕ) → EmptyText (text_of m s p n)
unfolding text_of
text_empty m s p n = go (judged_rules m s p)
  where
    go : (r : Read (List Rule × Unit {0})) → EmptyText (judged_text p n r)
    go (got l j) = either EmptyText (ltb (n / 16) (length (records l.0))) (refusal no_room p) _ (λ x. (refl, refl, refl)) (λ x. absurd (x refl))
    go none = λ x. (refl, refl, refl)
    go (refused k q) = λ x. (refl, refl, refl)

-- of a sheet
sheet_empty : (m : Manner) (s : List ℕ) (n : ℕ) → EmptyText (sheet_by m s n)
unfolding sheet_by
sheet_empty m s n = either EmptyText (ltb 4096 (length s)) (refusal too_long 0) (text_of m s 0 n) (λ x. (refl, refl, refl)) (text_empty m s 0 n)

-- with the next part's place
next_empty : (s : List ℕ) (e : ℕ) (a : Answer) (rs : List (List ℤ)) → EmptyText (a, rs) → EmptyPart (with_next s e a, rs)
unfolding with_next
next_empty s e a rs h = either (λ r. EmptyPart (r, rs)) (ltb e (length s)) (part_answer_of a (suc e) false) (part_answer_of a 0 true) h h

-- of a part
part_empty : (m : Manner) (s : List ℕ) (p n : ℕ) → EmptyPart (part_by m s p n)
part_empty m s p n =
    let e = part_end s p in
    let read : EmptyPart (part_to m s p n e) = next_empty s e _ _ (text_empty m (take e s) p n) in
    part_cases EmptyPart m s p n (λ x. (refl, refl, refl)) (λ x. (refl, refl, refl)) read

-- ---- so it leaves the table

-- in words as in bytes
table_left : {A : Type 0} (d : Layout A) (t : List A) (number records warnings : ℕ) (rs : List (List ℤ)) → Empty number records warnings rs →
    Untouched number records warnings t (table_after_as d t rs)
unfolding laid
table_left d t number records warnings rs h x = ((h x).0, (h x).1, ap (table_after_as d t) (h x).2)

module _ (m : Manner) (s : List ℕ) where
  -- a sheet into a table of words
  pub sheet_untouched : (t : List ℤ) {a : Answer} {after : List ℤ} → (a, after) ≡ sheet_reading_by m s t → Untouched a.number a.records a.warnings t after
  unfolding sheet_reading_by
  sheet_untouched t e = subst (λ r. Untouched r.0.number r.0.records r.0.warnings t r.1) (sym e) (table_left _ t _ _ _ _ (sheet_empty m s _))

  -- and of bytes
  pub sheet_bytes_untouched : (t : List ℕ) {a : Answer} {after : List ℕ} → (a, after) ≡ sheet_reading_bytes_by m s t → Untouched a.number a.records a.warnings t after
  unfolding sheet_reading_bytes_by
  sheet_bytes_untouched t e = subst (λ r. Untouched r.0.number r.0.records r.0.warnings t r.1) (sym e) (table_left _ t _ _ _ _ (sheet_empty m s _))

  -- by C
  pub sheet_call_untouched : (t : List ℕ) {number place records warnings : ℕ} {after : List ℕ} →
      (number ∷ place ∷ records ∷ warnings ∷ [], after) ≡ sheet_call_by m s t → Untouched number records warnings t after
  unfolding sheet_call_by sheet_reading_bytes_by
  sheet_call_untouched t e = subst (λ r. Untouched (get_or r.0 0 0) (get_or r.0 2 0) (get_or r.0 3 0) t r.1) (sym e) (table_left _ t _ _ _ _ (sheet_empty m s _))

  -- a part into a table of words
  pub part_untouched : (p : ℕ) (t : List ℤ) {a : PartAnswer} {after : List ℤ} → (a, after) ≡ part_reading_by m s p t → Untouched a.number a.records a.warnings t after
  unfolding part_reading_by
  part_untouched p t e = subst (λ r. Untouched r.0.number r.0.records r.0.warnings t r.1) (sym e) (table_left _ t _ _ _ _ (part_empty m s p _))

  -- and of bytes
  pub part_bytes_untouched : (p : ℕ) (t : List ℕ) {a : PartAnswer} {after : List ℕ} → (a, after) ≡ part_reading_bytes_by m s p t → Untouched a.number a.records a.warnings t after
  unfolding part_reading_bytes_by
  part_bytes_untouched p t e = subst (λ r. Untouched r.0.number r.0.records r.0.warnings t r.1) (sym e) (table_left _ t _ _ _ _ (part_empty m s p _))

  -- by C
  pub part_call_untouched : (p : ℕ) (t : List ℕ) {number place records warnings next last : ℕ} {after : List ℕ} →
      (number ∷ place ∷ records ∷ warnings ∷ next ∷ last ∷ [], after) ≡ part_call_by m s p t → Untouched number records warnings t after
  unfolding part_call_by part_reading_bytes_by
  part_call_untouched p t e = subst (λ r. Untouched (get_or r.0 0 0) (get_or r.0 2 0) (get_or r.0 3 0) t r.1) (sym e) (table_left _ t _ _ _ _ (part_empty m s p _))

-- ---- the calls with an edition: in a known one the same, and 19 writes nothing

-- a reading of a sheet that leaves the table t where it refuses, and one of a part
abbrev Leaves : {A : Type 0} → List A → Answer × List A → Type 0
Leaves t r = Untouched r.0.number r.0.records r.0.warnings t r.1

abbrev LeavesPart : {A : Type 0} → List A → PartAnswer × List A → Type 0
LeavesPart t r = Untouched r.0.number r.0.records r.0.warnings t r.1

sheet_leaves : {A : Type 0} (t : List A) (read : Manner → Answer × List A) → ((m : Manner) → Leaves t (read m)) → (e : Option Manner) → Leaves t (in_edition e read ((refusal unknown_edition 0).0, t))
sheet_leaves t read h (Some m) = h m
sheet_leaves t read h None = λ x. (refl, refl, refl)

part_leaves : {A : Type 0} (t : List A) (read : Manner → PartAnswer × List A) → ((m : Manner) → LeavesPart t (read m)) → (e : Option Manner) →
    LeavesPart t (in_edition e read ((part_refusal unknown_edition).0, t))
part_leaves t read h (Some m) = h m
part_leaves t read h None = λ x. (refl, refl, refl)

module _ (edition : ℕ) (s : List ℕ) where
  -- a sheet into a table of words
  pub sheet_in_untouched : (t : List ℤ) {a : Answer} {after : List ℤ} → (a, after) ≡ sheet_reading_in edition s t → Untouched a.number a.records a.warnings t after
  unfolding sheet_reading_in
  sheet_in_untouched t e = subst (Leaves t) (sym e) (sheet_leaves t (λ m. sheet_reading_by m s t) (λ m. sheet_untouched m s t refl) (edition_of edition))

  -- and of bytes
  pub sheet_bytes_in_untouched : (t : List ℕ) {a : Answer} {after : List ℕ} → (a, after) ≡ sheet_reading_bytes_in edition s t → Untouched a.number a.records a.warnings t after
  unfolding sheet_reading_bytes_in
  sheet_bytes_in_untouched t e = subst (Leaves t) (sym e) (sheet_leaves t (λ m. sheet_reading_bytes_by m s t) (λ m. sheet_bytes_untouched m s t refl) (edition_of edition))

  -- by C
  pub sheet_call_in_untouched : (t : List ℕ) {number place records warnings : ℕ} {after : List ℕ} →
      (number ∷ place ∷ records ∷ warnings ∷ [], after) ≡ sheet_call_in edition s t → Untouched number records warnings t after
  unfolding sheet_call_in
  sheet_call_in_untouched t e = subst (λ r. Untouched (get_or r.0 0 0) (get_or r.0 2 0) (get_or r.0 3 0) t r.1) (sym e) (sheet_bytes_in_untouched t refl)

  -- a part into a table of words
  pub part_in_untouched : (p : ℕ) (t : List ℤ) {a : PartAnswer} {after : List ℤ} → (a, after) ≡ part_reading_in edition s p t → Untouched a.number a.records a.warnings t after
  unfolding part_reading_in
  part_in_untouched p t e = subst (LeavesPart t) (sym e) (part_leaves t (λ m. part_reading_by m s p t) (λ m. part_untouched m s p t refl) (edition_of edition))

  -- and of bytes
  pub part_bytes_in_untouched : (p : ℕ) (t : List ℕ) {a : PartAnswer} {after : List ℕ} → (a, after) ≡ part_reading_bytes_in edition s p t → Untouched a.number a.records a.warnings t after
  unfolding part_reading_bytes_in
  part_bytes_in_untouched p t e = subst (LeavesPart t) (sym e) (part_leaves t (λ m. part_reading_bytes_by m s p t) (λ m. part_bytes_untouched m s p t refl) (edition_of edition))

  -- by C
  pub part_call_in_untouched : (p : ℕ) (t : List ℕ) {number place records warnings next last : ℕ} {after : List ℕ} →
      (number ∷ place ∷ records ∷ warnings ∷ next ∷ last ∷ [], after) ≡ part_call_in edition s p t → Untouched number records warnings t after
  unfolding part_call_in
  part_call_in_untouched p t e = subst (λ r. Untouched (get_or r.0 0 0) (get_or r.0 2 0) (get_or r.0 3 0) t r.1) (sym e) (part_bytes_in_untouched p t refl)
