-- The parts of a sheet and the sheet: where the table holds everything, the sheet is accepted exactly when every part is, with their records in order.
use Rattle.std.specs.Prelude.{None, Some}
use Rattle.std.specs.Prelude.{if◌then◌else◌}
use Prim.Native.Nat.{ℕ, zero, suc, ◌+◌, ◌≤◌, ◌<◌, ◌/◌}
use mathlib.Core.List.{List, [], ◌∷◌, ◌++◌, append-nil, append_assoc}
use mathlib.Core.Bool.{Bool, true, false}
use mathlib.Core.Path.{◌≡◌, refl, sym, ap, ◌∙◌}
use native.Mathlib.Omega.{arith}
use native.Mathlib.Nat.{add-zero, zero-add}
use native.Mathlib.Decide.{dec_lt}
use lib.Dec.{ltb}
use lib.IntN.{ℤ}
use lib.ListN.{length, take, drop, length-append}
use lib.Seq.{length-take-le, take_all}
use borrow.Author.Tests.{le-ltb, lt-ltb}
use Rattle.names.specs.declared.Manner.{Manner}
use Rattle.names.specs.Read.{Read, got, none, refused}
use Rattle.rules.specs.Rules.{Rule}
use Rattle.house.specs.Breaks.{first_of, rules_break, judged_by}
use Rattle.house.specs.Spans.{Break}
use Rattle.names.specs.Refusals.{number}
use Rattle.text_rules.specs.Texts.{rules, judged_rules, rule_records, records, warnings}
use Rattle.sheet.specs.Sheets.{answer_of, refusal, judged_text, text_of, sheet_by}
use Rattle.parts.specs.Parts.{part_end, begins, places}
use Rattle.sheet.specs.PartReadings.{part_answer_of, with_next, part_to, part_by}
use Rattle.parts.proofs.Laws.{part_begin, begins_first}
use Rattle.demands.proofs.Cuts.{joined, rules_cut}
use Rattle.demands.proofs.Judged.{Rules, settled, judged, judged_is, number_positive, Numbered, rules_number, judged_numbered, judged_append}
use Rattle.parts.proofs.PartLaws.{begins_fits, begins_next, end_split, end_paired}
use Rattle.demands.proofs.Places.{places_from, places_all, places_next, places_none}
use Rattle.demands.specs.Together.{Reading, PartReading, Every, total, in_order, Together}

-- ---- records in a table

-- records that a table of n words holds, with w warnings, or 10 at p
abbrev held : ℕ → ℕ → List (List ℤ) → ℕ → Reading
held n p rs w = if ltb (n / 16) (length rs) then refusal 10 p else (answer_of 0 0 (length rs) w, rs)

-- records that it holds
held_all : (n p : ℕ) (rs : List (List ℤ)) (w : ℕ) → length rs ≤ n / 16 → held n p rs w ≡ (answer_of 0 0 (length rs) w, rs)
held_all n p rs w h = rw (le-ltb (n / 16) (length rs) h)

-- and records that it does not
held_none : (n p : ℕ) (rs : List (List ℤ)) (w : ℕ) → n / 16 < length rs → held n p rs w ≡ refusal 10 p
held_none n p rs w h = rw (lt-ltb (n / 16) (length rs) h)

-- those that are accepted, it holds
held_fits : (n p : ℕ) (rs : List (List ℤ)) (w : ℕ) → (held n p rs w).0.number ≡ 0 → length rs ≤ n / 16
held_fits n p rs w = go (dec_lt (n / 16) (length rs))
  where
    go : Dec (n / 16 < length rs) → (held n p rs w).0.number ≡ 0 → length rs ≤ n / 16
    go (yes h) e = let z : ◌≡◌ {A = ℕ} 10 0 = rw (held_none n p rs w h) at e in omega arith
    go (no h) e = omega arith

-- ---- two texts

-- a reading r is accepted exactly when a and b are and the table holds the records of both; then it has theirs
record Two (n : ℕ) (a b r : Reading) : Type 0 where
  good : a.0.number ≡ 0 → b.0.number ≡ 0 → a.0.records + b.0.records ≤ n / 16 → r.0.number ≡ 0
  first : r.0.number ≡ 0 → a.0.number ≡ 0
  second : r.0.number ≡ 0 → b.0.number ≡ 0
  room : r.0.number ≡ 0 → a.0.records + b.0.records ≤ n / 16
  both : r.0.number ≡ 0 → r.1 ≡ a.1 ++ b.1
  counts : r.0.number ≡ 0 → r.0.records ≡ a.0.records + b.0.records
  warns : r.0.number ≡ 0 → r.0.warnings ≡ a.0.warnings + b.0.warnings

-- a refusal, where one of the two is refused or the table holds too little
two_refused : (n : ℕ) (a b r : Reading) → (a.0.number ≡ 0 → b.0.number ≡ 0 → a.0.records + b.0.records ≤ n / 16 → ⊥) → 0 < r.0.number → Two n a b r
two_refused n a b r h k =
    record {
      good = λ e f l. absurd (h e f l);
      first = λ e. absurd (omega arith);
      second = λ e. absurd (omega arith);
      room = λ e. absurd (omega arith);
      both = λ e. absurd (omega arith);
      counts = λ e. absurd (omega arith);
      warns = λ e. absurd (omega arith);
    }

-- the records of both
two_kept : (n p q o : ℕ) (x y : List (List ℤ)) (v w : ℕ) → Two n (held n p x v) (held n q y w) (held n o (x ++ y) (v + w))
two_kept n p q o x y v w = go (dec_lt (n / 16) (length (x ++ y)))
  where
    go : Dec (n / 16 < length (x ++ y)) → Two n (held n p x v) (held n q y w) (held n o (x ++ y) (v + w))
    go (yes h) =
        rw (held_none n o (x ++ y) (v + w) h)
        (two_refused n (held n p x v) (held n q y w) (refusal 10 o)
        (λ e f l. omega (arith, length-append x y, rw (held_all n p x v (held_fits n p x v e), held_all n q y w (held_fits n q y w f)) at l))
        (omega arith))
    go (no h) =
        rw (held_all n p x v (omega (arith, length-append x y)), held_all n q y w (omega (arith, length-append x y)), held_all n o (x ++ y) (v + w) (omega arith))
        (record {
          good = λ e f l. refl;
          first = λ e. refl;
          second = λ e. refl;
          room = λ e. omega (arith, length-append x y);
          both = λ e. refl;
          counts = λ e. length-append x y;
          warns = λ e. refl;
        })

-- the records of rules, one list after another
records_append : (l m : List Rule) → records (l ++ m) ≡ records l ++ records m
unfolding records
records_append [] m = refl
records_append (r ∷ l) m = rw (records_append l m) (sym (append_assoc (rule_records r) (records l) (records m)))

-- and their warnings
warnings_append : (l m : List Rule) → warnings (l ++ m) ≡ warnings l + warnings m
unfolding warnings
warnings_append [] m = sym (zero-add (warnings m))
warnings_append (r ∷ l) m = omega (arith, warnings_append l m)

-- what the rules of two texts come to
module _ (m : Manner) (p q n : ℕ) where
  -- both are read: the first break of both is that of the first, or else of the second
  two_read : (l k : List Rule × Unit {0}) (i j : ℕ) (a b : Break) → Numbered m (settled l i a) → Numbered m (settled k j b) →
      Two n (judged_text p n (settled l i a)) (judged_text q n (settled k j b)) (judged_text p n (settled (l.0 ++ k.0, tt) j (first_of a b)))
  two_read l k i j None None f g = rw (warnings_append l.0 k.0, records_append l.0 k.0) (two_kept n p q p (records l.0) (records k.0) (warnings l.0) (warnings k.0))
  two_read l k i j None (Some r) f g = two_refused n (judged_text p n (got l i)) (refusal (number r.reason) r.place) (refusal (number r.reason) r.place) (λ a b c. omega (arith, number_positive m g)) (number_positive m g)
  two_read l k i j (Some r) b f g = two_refused n (refusal (number r.reason) r.place) (judged_text q n (settled k j b)) (refusal (number r.reason) r.place) (λ a b c. omega (arith, number_positive m f)) (number_positive m f)

  two_judged : (x y : Rules) → Numbered m x → Numbered m y → Two n (judged_text p n (judged m x)) (judged_text q n (judged m y)) (judged_text p n (judged m (joined x y)))
  two_judged (got l i) (got k j) f g =
      rw (judged_append m l.0 k.0)
      (two_read l k i j (judged_by m (rules_break l.0)) (judged_by m (rules_break k.0)) (judged_numbered m (got l i) tt) (judged_numbered m (got k j) tt))
  two_judged (got l i) none f g = two_refused n (judged_text p n (judged m (got l i))) (refusal 3 q) (refusal 3 p) (λ a b c. omega arith) (omega arith)
  two_judged (got l i) (refused k o) f g = two_refused n (judged_text p n (judged m (got l i))) (refusal k o) (refusal k o) (λ a b c. omega (arith, number_positive m g)) (number_positive m g)
  two_judged none y f g = two_refused n (refusal 3 p) (judged_text q n (judged m y)) (refusal 3 p) (λ a b c. omega arith) (omega arith)
  two_judged (refused k o) y f g = two_refused n (refusal k o) (judged_text q n (judged m y)) (refusal k o) (λ a b c. omega (arith, number_positive m f)) (number_positive m f)

-- the text from a part's beginning on: that part, and the text after the `;` that ends it
two_texts : (m : Manner) (s : List ℕ) (p n : ℕ) → part_end s p < length s → Two n (text_of m (take (part_end s p) s) p n) (text_of m s (suc (part_end s p)) n) (text_of m s p n)
unfolding text_of
two_texts m s p n h =
    rw (judged_is m u p, judged_is m s (suc e), judged_is m s p, cut)
    (two_judged m p (suc e) n (rules m u p) (rules m s (suc e)) (rules_number m u p) (rules_number m s (suc e)))
  where
    e : ℕ
    e = part_end s p

    u : List ℕ
    u = take e s

    t : List ℕ
    t = drop (suc e) s

    split : s ≡ u ++ 59 ∷ t
    split = end_split s p h

    size : length u ≡ e
    size = length-take-le e s (omega arith)

    before : p ≤ length u
    before = omega (arith, size, part_begin s p)

    cut : rules m s p ≡ joined (rules m u p) (rules m s (suc e))
    cut =
        ap (λ z. rules m z p) split
        ∙ rules_cut m u t p (record { fits = before; side = end_paired s p h })
        ∙ ap (λ z. joined (rules m u p) (rules m z (suc (length u)))) (sym split)
        ∙ ap (λ k. joined (rules m u p) (rules m s (suc k))) size

-- an accepted text's records are held
text_fits : (m : Manner) (s : List ℕ) (p n : ℕ) → (text_of m s p n).0.number ≡ 0 → (text_of m s p n).0.records ≤ n / 16
unfolding text_of
text_fits m s p n = go (judged_rules m s p)
  where
    go : (x : Read (List Rule × Unit {0})) → (judged_text p n x).0.number ≡ 0 → (judged_text p n x).0.records ≤ n / 16
    go (got l j) e = let h = held_fits n p (records l.0) (warnings l.0) e in rw (le-ltb (n / 16) (length (records l.0)) h) h
    go none e = omega arith
    go (refused k q) e = omega arith

-- ---- all parts

-- a part's answer and records, with what is said of the next
abbrev pub parting : Reading → ℕ → Bool → PartReading
parting r next last = (part_answer_of r.0 next last, r.1)

module _ {n : ℕ} {r : Reading} (part : ℕ → PartReading) (p : ℕ) where
  -- one part
  together_one : {next : ℕ} {last : Bool} → part p ≡ parting r next last → (r.0.number ≡ 0 → r.0.records ≤ n / 16) → Together n r part (p ∷ [])
  together_one q h =
      let k : (part p).0.records ≡ r.0.records = ap (λ (a : PartReading). a.0.records) q in
      record {
        accepted = λ w l. sym (ap (λ (a : PartReading). a.0.number) q) ∙ w.0;
        every = λ e. (ap (λ (a : PartReading). a.0.number) q ∙ e, tt);
        holds = λ e. omega (arith, h e);
        made = λ e. sym (append-nil (part p).1 ∙ ap (λ (a : PartReading). a.1) q);
        counted = λ e. omega arith;
        warned = λ e. sym (add-zero (part p).0.warnings ∙ ap (λ (a : PartReading). a.0.warnings) q);
      }

  -- a part more
  together_more : {a b : Reading} {next : ℕ} {last : Bool} {ps : List ℕ} → part p ≡ parting a next last → Two n a b r → Together n b part ps → Together n r part (p ∷ ps)
  together_more {a} {b} q z w =
      let i : (part p).0.number ≡ a.0.number = ap (λ (x : PartReading). x.0.number) q in
      let k : (part p).0.records ≡ a.0.records = ap (λ (x : PartReading). x.0.records) q in
      let j : (part p).0.warnings ≡ a.0.warnings = ap (λ (x : PartReading). x.0.warnings) q in
      record {
        accepted = λ g l. let o : b.0.number ≡ 0 = w.accepted g.1 (omega arith) in z.good (sym i ∙ g.0) o (omega (arith, w.counted o));
        every = λ e. (i ∙ z.first e, w.every (z.second e));
        holds = λ e. omega (arith, z.room e, w.counted (z.second e));
        made = λ e. z.both e ∙ rw (← w.made (z.second e), q);
        counted = λ e. omega (arith, z.counts e, w.counted (z.second e));
        warned = λ e. omega (arith, z.warns e, w.warned (z.second e));
      }

-- the part that begins at p
part_is : (m : Manner) (s : List ℕ) (p n : ℕ) → length s ≤ 4096 → begins s p ≡ true → part_by m s p n ≡ part_to m s p n (part_end s p)
unfolding part_by
part_is m s p n h b = rw (le-ltb 4096 (length s) h, b)

-- where it is not the last
pub part_more : (m : Manner) (s : List ℕ) (p n : ℕ) → length s ≤ 4096 → begins s p ≡ true → part_end s p < length s →
    part_by m s p n ≡ parting (text_of m (take (part_end s p) s) p n) (suc (part_end s p)) false
unfolding with_next
part_more m s p n h b l = part_is m s p n h b ∙ rw (lt-ltb (part_end s p) (length s) l)

-- where it is
pub part_last : (m : Manner) (s : List ℕ) (p n : ℕ) → length s ≤ 4096 → begins s p ≡ true → length s ≤ part_end s p → part_by m s p n ≡ parting (text_of m s p n) 0 true
unfolding with_next
part_last m s p n h b l = part_is m s p n h b ∙ rw (le-ltb (part_end s p) (length s) l, take_all (part_end s p) s l)

-- from a part on, by the bytes that are left
together_from : (m : Manner) (k : ℕ) (s : List ℕ) (p n : ℕ) → length s ≤ 4096 → begins s p ≡ true → length s < p + k → Together n (text_of m s p n) (λ q. part_by m s q n) (places_from s p)
together_from m zero s p n h b l = absurd (omega (arith, begins_fits s p b))
together_from m (suc k) s p n h b l = rw (places_next s p b) (go (dec_lt (part_end s p) (length s)) (together_from m k s (suc (part_end s p)) n h))
  where
    go : Dec (part_end s p < length s) → (begins s (suc (part_end s p)) ≡ true → length s < suc (part_end s p) + k →
        Together n (text_of m s (suc (part_end s p)) n) (λ q. part_by m s q n) (places_from s (suc (part_end s p)))) →
        Together n (text_of m s p n) (λ q. part_by m s q n) (p ∷ places_from s (suc (part_end s p)))
    go (yes e) ih = together_more (λ q. part_by m s q n) p (part_more m s p n h b e) (two_texts m s p n e) (ih (begins_next s p b e) (omega (arith, part_begin s p)))
    go (no e) ih = rw (places_none s (suc (part_end s p)) (omega arith)) (together_one (λ q. part_by m s q n) p (part_last m s p n h b (omega arith)) (text_fits m s p n))

-- a sheet and its parts
pub together : (m : Manner) (s : List ℕ) (n : ℕ) → length s ≤ 4096 → Together n (sheet_by m s n) (λ p. part_by m s p n) (places s)
unfolding sheet_by
together m s n h = rw (le-ltb 4096 (length s) h, places_all s) (together_from m (suc (length s)) s 0 n h (sym (begins_first s 0 refl)) (omega arith))

-- in short, for a table of n words
module _ (m : Manner) (s : List ℕ) (n : ℕ) (h : length s ≤ 4096) where
  -- where every part is accepted and the table holds all their records, the sheet is accepted
  pub together_if : Every (λ p. (part_by m s p n).0.number ≡ 0) (places s) → total (λ p. (part_by m s p n).0.records) (places s) ≤ n / 16 → (sheet_by m s n).0.number ≡ 0
  together_if = (together m s n h).accepted

  -- and only there
  pub together_only_if : (sheet_by m s n).0.number ≡ 0 → Every (λ p. (part_by m s p n).0.number ≡ 0) (places s) × (total (λ p. (part_by m s p n).0.records) (places s) ≤ n / 16)
  together_only_if e = ((together m s n h).every e, (together m s n h).holds e)

  -- with the parts' records in order
  pub together_records : (sheet_by m s n).0.number ≡ 0 → (sheet_by m s n).1 ≡ in_order (λ p. (part_by m s p n).1) (places s)
  together_records = (together m s n h).made

  -- and their counts added
  pub together_counts : (sheet_by m s n).0.number ≡ 0 →
      ((sheet_by m s n).0.records ≡ total (λ p. (part_by m s p n).0.records) (places s)) × ((sheet_by m s n).0.warnings ≡ total (λ p. (part_by m s p n).0.warnings) (places s))
  together_counts e = ((together m s n h).counted e, (together m s n h).warned e)
