-- What the counted rules of a text come to: a refusal, too little room, or an answer and the tables with its records.
use Rattle.std.specs.Prelude.{if◌then◌else◌}
use Prim.Native.Nat.{ℕ, ◌*◌, ◌/◌, ◌≤◌, ◌<◌}
use mathlib.Core.List.{List, [], ◌∷◌}
use mathlib.Core.List as list
use mathlib.Core.Bool.{Bool, true, false, not}
use mathlib.Core.Path.{◌≡◌, refl, sym, ap, ◌∙◌}
use native.Mathlib.Omega.{arith}
use native.Mathlib.Nat.{zero-add, div-mul-le_self}
use lib.Dec.{ltb}
use lib.IntN.{ℤ, pos}
use lib.ListN.{length, take, length-set}
use borrow.Author.Tests.{lt-ltb, le-ltb, ltb-false}
use Rattle.names.specs.declared.Manner.{Manner}
use Rattle.names.specs.Read.{Read, got, none, refused, follow, nothing, pure}
use Rattle.lent_slots.specs.Tables.{Layout, as_words, as_bytes, kept, Tables, kept_in, all_kept, records_in}
use Rattle.lent_slots.proofs.Keeps.{all_laid}
use Rattle.lent_slots.proofs.Cells.{Sixteen, sixteen_append, records_back}
use Rattle.records.proofs.Sixteen.{item_sixteen, head_sixteen}
use Rattle.records.specs.Words.{words_of, Placed, item_record}
use Rattle.rules.specs.Rules.{Rule}
use Rattle.text_rules.specs.Texts.{judged_rules, rule_records, records, warnings}
use Rattle.text_rules.specs.Into.{Totals, rules_into, into}
use Rattle.sheet.specs.Sheets.{answer_of, refusal, judged_text, text_of, written_as, sheet_by, words_in}
use Rattle.parts.specs.Parts.{begins, part_end}
use Rattle.sheet.specs.PartReadings.{with_next, part_refusal, part_by}
use Rattle.text_rules.specs.Seen.{seen_rules_into}
use Rattle.sheet.specs.declared.Answer.{Answer}
use Rattle.sheet.specs.declared.PartAnswer.{PartAnswer}
use Rattle.std.specs.Prelude.{Result, Ok, Err}
use Rattle.names.specs.declared.Cursor.{Cursor}
use Rattle.names.specs.declared.refusals.Reason.{Reason}
use Rattle.names.specs.declared.refusals.Refusal.{Refusal}
use Rattle.text_rules.specs.declared.Counted.{Counted}

-- ---- a text's records

-- each has 16 words
items_sixteen : (l : List Placed) → Sixteen (list.map item_record l)
unfolding item_record
items_sixteen [] = tt
items_sixteen (a ∷ l) = (length-set (words_of a.0) 15 (pos a.1) ∙ item_sixteen a.0, items_sixteen l)

pub records_sixteen : (l : List Rule) → Sixteen (records l)
unfolding records
records_sixteen [] = tt
records_sixteen (r ∷ l) = sixteen_append (rule_records r) (records l) (head_sixteen r.0, items_sixteen r.1) (records_sixteen l)

-- a reading's records are as many as it says, of 16 words each, and a table of n words holds them
pub record Held (n count : ℕ) (rs : List (List ℤ)) : Type 0 where
  pub many : count ≡ length rs
  pub long : Sixteen rs
  pub room : length rs ≤ n / 16

-- no records
held_none : (n : ℕ) → Held n 0 []
held_none n = record { many = refl; long = tt; room = omega arith }

-- those of a text
text_held : (m : Manner) (s : List ℕ) (p n : ℕ) → Held n (text_of m s p n).0.records (text_of m s p n).1
unfolding text_of
text_held m s p n = go (judged_rules m s p)
  where
    all : (l : List Rule) (full : Bool) → ltb (n / 16) (length (records l)) ≡ full →
        let r = if full then refusal 10 p else (answer_of 0 0 (length (records l)) (warnings l), records l) in Held n r.0.records r.1
    all l true e = held_none n
    all l false e = record { many = refl; long = records_sixteen l; room = ltb-false (n / 16) (length (records l)) e }

    go : (x : Read (List Rule × Unit {0})) → Held n (judged_text p n x).0.records (judged_text p n x).1
    go (got l j) = all l.0 (ltb (n / 16) (length (records l.0))) refl
    go none = held_none n
    go (refused k q) = held_none n

-- what holds of both holds of either
either : {A : Type 0} (P : A → Type 0) (c : Bool) {a b : A} → P a → P b → P (if c then a else b)
either P true h k = h
either P false h k = k

-- of a part
pub part_held : (m : Manner) (s : List ℕ) (p n : ℕ) → Held n (part_by m s p n).0.records (part_by m s p n).1
unfolding part_by with_next
part_held m s p n =
    let P : PartAnswer × List (List ℤ) → Type 0 = λ r. Held n r.0.records r.1 in
    let u = take (part_end s p) s in
    let h = text_held m u p n in
    either P (ltb 4096 (length s)) (held_none n) (either P (not (begins s p)) (held_none n) (either (λ (a : PartAnswer). Held n a.records (text_of m u p n).1) (ltb (part_end s p) (length s)) h h))

-- and of a sheet
pub sheet_held : (m : Manner) (s : List ℕ) (n : ℕ) → Held n (sheet_by m s n).0.records (sheet_by m s n).1
unfolding sheet_by
sheet_held m s n = either (λ (r : Answer × List (List ℤ)). Held n r.0.records r.1) (ltb 4096 (length s)) (held_none n) (text_held m s 0 n)

-- ---- rules that were counted and kept

-- the rules of a text are read: they have n records and w warnings, and tables t with the records are t'
pub record Kept (m : Manner) (t t' : Tables) (s : List ℕ) (p n w : ℕ) : Type 0 where
  pub list : List Rule
  pub end : ℕ
  pub is : judged_rules m s p ≡ got (list, tt) end
  pub many : n ≡ length (records list)
  pub warned : w ≡ warnings list
  pub all : t' ≡ all_kept t 0 (records list)

module _ (m : Manner) (s : List ℕ) (p : ℕ) where
  abbrev Rules : Type 0
  Rules = Read (List Rule × Unit {0})

  -- what is counted of the rules
  abbrev totals : Tables → List Rule × Unit {0} → Totals
  totals t l = (length (records l.0), warnings l.0, all_kept t 0 (records l.0))

  -- counted, and not refused
  pub kept_is : (t t' : Tables) {n w j : ℕ} → rules_into m t s p ≡ got (n, w, t') j → Kept m t t' s p n w
  kept_is t t' {n} {w} {j} = go (judged_rules m s p) refl
    where
      go : (x : Rules) → judged_rules m s p ≡ x → follow s p x (λ l. pure (totals t l)) nothing ≡ got (n, w, t') j → Kept m t t' s p n w
      go (got l k) e f =
          let v : ◌≡◌ {A = Totals} (totals t l) (n, w, t') = cc in
          record {
            list = l.0;
            end = k;
            is = e;
            many = sym (ap (λ (y : Totals). y.0) v);
            warned = sym (ap (λ (y : Totals). y.1) v);
            all = sym (ap (λ (y : Totals). y.2) v);
          }
      go none e f = let z : ◌≡◌ {A = ℕ} 0 1 = cc in absurd (omega arith)
      go (refused k q) e f = let z : ◌≡◌ {A = ℕ} 0 1 = cc in absurd (omega arith)

  -- a refusal
  pub text_refused : (t u : Tables) (size : ℕ) {k q : ℕ} → rules_into m t s p ≡ refused k q → ((refusal k q).0, u) ≡ into u (text_of m s p size)
  unfolding text_of all_kept
  text_refused t u size {k} {q} = go (judged_rules m s p)
    where
      go : (x : Rules) → follow s p x (λ l. pure (totals t l)) nothing ≡ refused k q → ((refusal k q).0, u) ≡ into u (judged_text p size x)
      go (got l j) e = cc
      go none e = cc
      go (refused a b) e = let f : a ≡ k = cc in let g : b ≡ q = cc in rw (f, g)

  module _ (t t' u : Tables) {n w : ℕ} (k : Kept m t t' s p n w) where
    -- read again into other tables
    pub again : (r : Result (Counted × Cursor) (Refusal Reason)) {u' : Tables} → rules_into m u s p ≡ seen_rules_into r u' → u' ≡ all_kept u 0 (records k.list)
    again (Ok x) {u'} e =
        let f : ◌≡◌ {A = Read Totals} (got (totals u (k.list, tt)) k.end) (got (x.0.records, x.0.warnings, u') x.1.at) = rw k.is at e in
        let g : ◌≡◌ {A = Totals} (totals u (k.list, tt)) (x.0.records, x.0.warnings, u') = cc in
        sym (ap (λ (y : Totals). y.2) g)
    again (Err r) {u'} e = let f : ◌≡◌ {A = Read Totals} (got (totals u (k.list, tt)) k.end) (seen_rules_into (Err r) u') = rw k.is at e in cc

    -- taken out of the table of words, where it had room for all
    pub taken : n * 16 ≤ length t.0 → records_in n t'.0 ≡ records k.list
    taken h =
        let rs = records k.list in
        let room : length rs * 16 ≤ length t.0 = rw k.many at h in
        rw (k.many, k.all, all_laid as_words (λ x. x.0) (λ _ _ _. refl) rs t 0 (omega arith)) (records_back rs t.0 (records_sixteen k.list) room)

    module _ (room : ℕ) where
      -- more records than there is room for
      pub text_full : room < n → ((refusal 10 p).0, u) ≡ into u (text_of m s p (room * 16))
      unfolding text_of all_kept
      text_full h = let g : room * 16 / 16 < length (records k.list) = omega (arith, h, k.many) in rw (k.is, lt-ltb _ _ g)

      -- the text is accepted
      pub text_accepted : n ≤ room → (answer_of 0 0 n w, all_kept u 0 (records k.list)) ≡ into u (text_of m s p (room * 16))
      unfolding text_of
      text_accepted h = let g : length (records k.list) ≤ room * 16 / 16 = omega (arith, h, k.many) in rw (k.is, le-ltb _ _ g, k.many, k.warned)

-- ---- only a table's whole groups of 16 words count

abbrev whole : ℕ → ℕ
whole n = n / 16 * 16

groups : (n : ℕ) → whole n / 16 ≡ n / 16
groups n = omega arith

text_whole : (m : Manner) (s : List ℕ) (p n : ℕ) → text_of m s p (whole n) ≡ text_of m s p n
unfolding text_of
text_whole m s p n = go (judged_rules m s p)
  where
    go : (x : Read (List Rule × Unit {0})) → judged_text p (whole n) x ≡ judged_text p n x
    go (got l j) = rw (groups n)
    go none = refl
    go (refused k q) = refl

pub sheet_whole : (m : Manner) (s : List ℕ) (n : ℕ) → sheet_by m s (whole n) ≡ sheet_by m s n
unfolding sheet_by
sheet_whole m s n = rw (text_whole m s 0 n)

pub part_whole : (m : Manner) (s : List ℕ) (p n : ℕ) → part_by m s p (whole n) ≡ part_by m s p n
unfolding part_by
part_whole m s p n = rw (text_whole m (take (part_end s p) s) p n)

-- ---- sheets and parts

module _ (m : Manner) (u : Tables) where
  -- nothing is kept
  into_none : {A : Type 0} (a : A) → (a, u) ≡ into u (a, [])
  unfolding all_kept
  into_none a = refl

  module _ (s : List ℕ) (n : ℕ) where
    -- a sheet of over 4,096 bytes is not read
    pub sheet_long : 4096 < length s → ((refusal 1 0).0, u) ≡ into u (sheet_by m s n)
    unfolding sheet_by
    sheet_long h = rw (lt-ltb 4096 (length s) h) (into_none (refusal 1 0).0)

    -- another is a text from its first byte on
    pub sheet_text_lem : length s ≤ 4096 → into u (text_of m s 0 n) ≡ into u (sheet_by m s n)
    unfolding sheet_by
    sheet_text_lem h = rw (le-ltb 4096 (length s) h)

  module _ (s : List ℕ) (p n : ℕ) where
    -- in a sheet of over 4,096 bytes no part is read
    pub part_long : 4096 < length s → ((part_refusal 1).0, u) ≡ into u (part_by m s p n)
    unfolding part_by
    part_long h = rw (lt-ltb 4096 (length s) h) (into_none (part_refusal 1).0)

    -- nor where none begins
    pub part_nowhere : length s ≤ 4096 → begins s p ≡ false → ((part_refusal 2).0, u) ≡ into u (part_by m s p n)
    unfolding part_by
    part_nowhere h e = rw (le-ltb 4096 (length s) h, e) (into_none (part_refusal 2).0)

    -- a part is the text up to its end, from its beginning on
    pub part_text : {a : Answer} {u' : Tables} → length s ≤ 4096 → begins s p ≡ true → (a, u') ≡ into u (text_of m (take (part_end s p) s) p n) →
        (with_next s (part_end s p) a, u') ≡ into u (part_by m s p n)
    unfolding part_by
    part_text h e f = ap (λ (r : Answer × Tables). (with_next s (part_end s p) r.0, r.1)) f ∙ rw (le-ltb 4096 (length s) h, e)

-- ---- one of the tables

-- a reading's records kept in a table that holds them are written over it
into_written : {A B : Type 0} (d : Layout B) (of : Tables → List B) (one : (t : Tables) (k : ℕ) (r : List ℤ) →
    of (kept_in t k r) ≡ kept d (of t) k r) (t : Tables) {t' : Tables} {a : A} (x : A × List (List ℤ)) →
    length x.1 * d.width ≤ length (of t) → (a, t') ≡ into t x → (a, of t') ≡ written_as d (of t) x
into_written {A} {B} d of one t x h e =
    ap (λ (y : A × Tables). (y.0, of y.1)) e
    ∙ ap (λ (l : List B). (x.0, l)) (all_laid d of one x.1 t 0 (rw (zero-add (length x.1)) h))

-- of words
pub into_words : {A : Type 0} {count : ℕ} (t : Tables) {t' : Tables} {a : A} (x : A × List (List ℤ)) → Held (length t.0) count x.1 → (a, t') ≡ into t x → (a, t'.0) ≡ written_as as_words t.0 x
into_words t x h = into_written as_words (λ y. y.0) (λ _ _ _. refl) t x (omega (arith, h.room, div-mul-le_self (length t.0) 16))

-- of bytes
pub into_bytes : {A : Type 0} {count : ℕ} (t : Tables) {t' : Tables} {a : A} (x : A × List (List ℤ)) → Held (words_in (length t.1)) count x.1 → (a, t') ≡ into t x →
    (a, t'.1) ≡ written_as as_bytes t.1 x
into_bytes t x h = into_written as_bytes (λ y. y.1) (λ _ _ _. refl) t x (omega (arith, h.room, div-mul-le_self (length t.1) 64))
