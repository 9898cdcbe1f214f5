-- Each number of an answer is small: a place is one of the sheet's, there are no more records than bytes, and at most 6 warnings for each record.
use Rattle.std.specs.Prelude.{if◌then◌else◌}
use Prim.Native.Nat.{ℕ, zero, suc, ◌+◌, ◌*◌, ◌/◌, ◌≤◌, ◌<◌}
use mathlib.Core.List.{List, [], ◌∷◌}
use mathlib.Core.Bool.{Bool, true, false, not}
use mathlib.Core.Path.{◌≡◌, refl, subst}
use native.Mathlib.Omega.{arith}
use native.Mathlib.Decide.{dec_lt}
use lib.Dec.{ltb}
use lib.ListN.{length, take}
use lib.Seq.{length-take-le}
use borrow.Author.Tests.{lt-ltb, le-ltb}
use Rattle.names.specs.declared.Manner.{Manner}
use Rattle.names.specs.Read.{Read, got, none, refused, follow, nothing, pure, map}
use Rattle.names.specs.Chain.{before, last, chain_in, chain}
use Rattle.names.specs.Texts.{blanks}
use Rattle.names.proofs.Local.{Ends, Near, near_up, past_one}
use Rattle.records.specs.Warnings.{most_warnings}
use Rattle.records.specs.Words.{Placed}
use Rattle.items.specs.Musts.{must}
use Rattle.rules.specs.Rules.{Rule, rule}
use Rattle.rules.specs.Separators.{next}
use Rattle.rules.specs.Places.{Rising}
use Rattle.rules.proofs.Cut.{rule_local}
use Rattle.rules.proofs.Places.{places_rise}
use Rattle.house.specs.Breaks.{rules_break, judged_by}
use Rattle.house.specs.Profile.{Each}
use Rattle.house.specs.Spans.{Break}
use Rattle.house.proofs.Places.{Broken, OfItem, OfRule, more_broken, none_broken, judged_broken}
use Rattle.std.specs.Prelude.{Option, Some, None}
use Rattle.text_rules.specs.Texts.{after_rule, parted, more_rules, no_more, rules, unbroken, judged_rules, records, warnings}
use Rattle.sheet.specs.Sheets.{answer_of, refusal, judged_text, text_of, sheet_by, sheet_reading_bytes_by, words_in}
use Rattle.parts.specs.Parts.{begins, part_end}
use Rattle.sheet.specs.PartReadings.{part_answer_of, with_next, part_to, part_refusal, part_by, part_reading_bytes_by}
use Rattle.sheet.specs.declared.Answer.{Answer}
use Rattle.sheet.specs.declared.PartAnswer.{PartAnswer}
use Rattle.text_rules.proofs.Moves.{more_rules_ended, takes}
use Rattle.names.proofs.Upto.{Upto, upto_then}
use Rattle.text_rules.proofs.Turns.{Taking, more_takes, records_more, records_none}
use Rattle.parts.proofs.PartLaws.{begins_fits, end_fits}

-- ---- places and records

-- a rule of a text is refused at one of its places
more_near : (m : Manner) (x : (Option ℕ)) (s : List ℕ) (i : ℕ) → i ≤ length s → Near m (length s) (more_rules m x s i)
more_near m x s i h = near_up m (more_rules m x s i) (omega arith) ((more_rules_ended m {u = []} x).near s i (omega arith))

-- a break or a refusal is at a place up to n
abbrev UpTo : ℕ → ℕ → ℕ → Type 0
UpTo n k p = p ≤ n

-- so are the places of a rule and of its items
items_placed : (n i k : ℕ) (l : List Placed) → k ≤ n → Rising i l k → Each (OfItem (UpTo n)) l
items_placed n i k [] h r = tt
items_placed n i k (a ∷ l) h r = let e : a.1 ≤ n = omega (arith, r.1) in ((e, e), items_placed n (suc a.1) k l h r.2)

more_placed : (m : Manner) (separator : ℕ) (s : List ℕ) (i : ℕ) → Upto (λ x k. OfRule (UpTo (length s)) x.0) (more_rules m (Some separator) s i)
unfolding more_rules parted
more_placed m separator s i =
    upto_then P s i _ (blanks s i) (λ _ j e.
    upto_then P s j after_rule (rule m separator s j) (λ r k f.
    let h = places_rise m separator s j k r f in
    let w : OfRule (UpTo (length s)) r = (omega (arith, h.0, past_one (rule_local m separator) f), items_placed (length s) j k r.1 h.2 h.1) in
    upto_then P s k _ (blanks s k) (λ _ l g. upto_then P s l _ (must next s l) (λ n q o. w))))
  where
    P : Rule × Option ℕ → ℕ → Type 0
    P x k = OfRule (UpTo (length s)) x.0

-- from the place i on there are no more records than bytes, at most 6 warnings for each, and a break or a refusal is at a place of the text
abbrev Bounded : ℕ → ℕ → Read (List Rule × Unit {0}) → Type 0
Bounded n i (got l j) = (i + length (records l.0) ≤ n) × Broken (UpTo n) (rules_break l.0) × (warnings l.0 ≤ length (records l.0) * 6)
Bounded n i none = Unit {0}
Bounded n i (refused k p) = p ≤ n

module _ (m : Manner) (s : List ℕ) where
  -- a rule more
  bounded_more : (c : Rule × Option ℕ) (i j : ℕ) → Taking i c j → OfRule (UpTo (length s)) c.0 → (x : Read (List Rule × Unit {0})) → Bounded (length s) j x →
      Bounded (length s) i (follow s j x (λ l. pure (before c.0 l)) nothing)
  unfolding warnings
  bounded_more c i j h w (got l k) b =
      let more = records_more c.0 l.0 in
      (omega (arith, more, h.0, b.0), more_broken (UpTo (length s)) c.0 l.0 w b.1, omega (arith, more, h.1, b.2))
  bounded_more c i j h w none b = tt
  bounded_more c i j h w (refused e p) b = b

  -- no rule more
  finished : (n i : ℕ) → i ≤ length s → Bounded (length s) i (follow s i (more_rules m None s i) (λ c. map (before c.0) (chain_in n (more_rules m) no_more c.1)) (map last (no_more None)))
  unfolding more_rules no_more warnings
  finished n i h = (omega (arith, records_none), none_broken (UpTo (length s)), omega arith)

  bounded : (n : ℕ) (x : (Option ℕ)) (i : ℕ) → i ≤ length s → Bounded (length s) i (chain_in n (more_rules m) no_more x s i)
  unfolding chain_in no_more
  bounded zero x i h = tt
  bounded (suc n) (Some q) i h = go (λ y j w. bounded n y j w) (more_rules m (Some q) s i) (takes m (Some q) s i) (more_takes m q s i) (more_placed m q s i) (more_near m (Some q) s i h)
    where
      go : ((y : (Option ℕ)) (j : ℕ) → j ≤ length s → Bounded (length s) j (chain_in n (more_rules m) no_more y s j)) →
          (r : Read (Rule × Option ℕ)) → Ends (λ j. (i < j) × (j ≤ length s)) r → Upto (Taking i) r → Upto (λ x k. OfRule (UpTo (length s)) x.0) r → Near m (length s) r →
          Bounded (length s) i (follow s i r (λ c. map (before c.0) (chain_in n (more_rules m) no_more c.1)) (map last (no_more (Some q))))
      go later (got c j) e f o w = bounded_more c i j f o (chain_in n (more_rules m) no_more c.1 s j) (later c.1 j e.1)
      go later none e f o w = tt
      go later (refused k p) e f o w = w.1
  bounded (suc n) None i h = finished n i h

  -- the rules of a text
  rules_bounded : (p : ℕ) → p ≤ length s → Bounded (length s) p (rules m s p)
  unfolding rules chain
  rules_bounded p h = bounded (suc (length s)) (Some 0) p h

  -- the records of a text are at most its bytes
  pub records_few : (p : ℕ) {l : List Rule × Unit {0}} {j : ℕ} → p ≤ length s → rules m s p ≡ got l j → p + length (records l.0) ≤ length s
  records_few p {l} h e = (subst (Bounded (length s) p) e (rules_bounded p h)).0

  -- the rules of a text that are judged
  judged_bounded : (p : ℕ) → p ≤ length s → Bounded (length s) p (judged_rules m s p)
  unfolding judged_rules
  judged_bounded p h = go (rules m s p) (rules_bounded p h)
    where
      unbroken_bounded : (l : List Rule × Unit {0}) (j : ℕ) → Bounded (length s) p (got l j) → (b : Break) → Broken (UpTo (length s)) b → Bounded (length s) p (unbroken l b s j)
      unbroken_bounded l j h None w = h
      unbroken_bounded l j h (Some r) w = w

      go : (x : Read (List Rule × Unit {0})) → Bounded (length s) p x → Bounded (length s) p (follow s p x (λ l. unbroken l (judged_by m (rules_break l.0))) nothing)
      go (got l j) h = unbroken_bounded l j h (judged_by m (rules_break l.0)) (judged_broken (UpTo (length s)) m (rules_break l.0) h.1)
      go none h = h
      go (refused k q) h = h

-- ---- answers

-- the numbers of an answer are small
pub record Small (a : Answer) : Type 0 where
  pub place : a.place ≤ 4096
  pub records : a.records ≤ 4096
  pub warnings : a.warnings ≤ most_warnings

-- a refusal's
pub refusal_small : (number place : ℕ) → place ≤ 4096 → Small (refusal number place).0
refusal_small number place h = record { place = h; records = omega arith; warnings = omega arith }

-- a text's
pub text_small : (m : Manner) (s : List ℕ) (p n : ℕ) → length s ≤ 4096 → p ≤ length s → Small (text_of m s p n).0
unfolding text_of
text_small m s p n small h = go (judged_rules m s p) (judged_bounded m s p h)
  where
    full : (l : List Rule) → length (records l) ≤ 4096 → warnings l ≤ length (records l) * 6 → (b : Bool) →
        Small (if b then refusal 10 p else (answer_of 0 0 (length (records l)) (warnings l), records l)).0
    full l k w true = refusal_small 10 p (omega arith)
    full l k w false = record { place = omega arith; records = k; warnings = omega arith }

    go : (x : Read (List Rule × Unit {0})) → Bounded (length s) p x → Small (judged_text p n x).0
    go (got l j) b = full l.0 (omega (arith, b.0)) b.2 (ltb (n / 16) (length (records l.0)))
    go none b = refusal_small 3 p (omega arith)
    go (refused k q) b = refusal_small k q (omega arith)

-- a sheet's
pub sheet_small : (m : Manner) (s : List ℕ) (n : ℕ) → Small (sheet_by m s n).0
unfolding sheet_by
sheet_small m s n = go (dec_lt 4096 (length s))
  where
    go : Dec (4096 < length s) → Small (if ltb 4096 (length s) then refusal 1 0 else text_of m s 0 n).0
    go (yes h) = rw (lt-ltb 4096 (length s) h) (refusal_small 1 0 (omega arith))
    go (no h) = let k : length s ≤ 4096 = omega arith in rw (le-ltb 4096 (length s) k) (text_small m s 0 n k (omega arith))

pub sheet_bytes_small : (m : Manner) (s t : List ℕ) → Small (sheet_reading_bytes_by m s t).0
unfolding sheet_reading_bytes_by
sheet_bytes_small m s t = sheet_small m s (words_in (length t))

-- ---- parts

-- the numbers of a part's answer are small
pub record SmallPart (a : PartAnswer) : Type 0 where
  pub same : Small (answer_of a.number a.place a.records a.warnings)
  pub next : a.next ≤ 4096

-- with the next part's place
next_small : (s : List ℕ) (e : ℕ) (a : Answer) → length s ≤ 4096 → Small a → SmallPart (with_next s e a)
unfolding with_next
next_small s e a small h = go (dec_lt e (length s))
  where
    go : Dec (e < length s) → SmallPart (if ltb e (length s) then part_answer_of a (suc e) false else part_answer_of a 0 true)
    go (yes k) = rw (lt-ltb e (length s) k) (record { same = h; next = omega arith })
    go (no k) = let l : length s ≤ e = omega arith in rw (le-ltb e (length s) l) (record { same = h; next = omega arith })

-- a refusal's
pub refused_small : (number : ℕ) → SmallPart (part_refusal number).0
refused_small number = record { same = refusal_small number 0 (omega arith); next = omega arith }

part_small : (m : Manner) (s : List ℕ) (p n : ℕ) → SmallPart (part_by m s p n).0
unfolding part_by part_end
part_small m s p n = go (dec_lt 4096 (length s)) (begins s p) refl
  where
    text : length s ≤ 4096 → begins s p ≡ true → SmallPart (part_to m s p n (part_end s p)).0
    text k e =
        let f = end_fits s p (begins_fits s p e) in
        let l = length-take-le (part_end s p) s f in
        next_small s (part_end s p) (text_of m (take (part_end s p) s) p n).0 k (text_small m (take (part_end s p) s) p n (omega arith) (omega arith))

    go : Dec (4096 < length s) → (b : Bool) → begins s p ≡ b → SmallPart (if ltb 4096 (length s) then part_refusal 1 else if not b then part_refusal 2 else part_to m s p n (part_end s p)).0
    go (yes h) b e = rw (lt-ltb 4096 (length s) h) (refused_small 1)
    go (no h) true e = let k : length s ≤ 4096 = omega arith in rw (le-ltb 4096 (length s) k) (text k e)
    go (no h) false e = let k : length s ≤ 4096 = omega arith in rw (le-ltb 4096 (length s) k) (refused_small 2)

pub part_bytes_small : (m : Manner) (s : List ℕ) (p : ℕ) (t : List ℕ) → SmallPart (part_reading_bytes_by m s p t).0
unfolding part_reading_bytes_by
part_bytes_small m s p t = part_small m s p (words_in (length t))
