-- A rule of a text and what parts it from the next, a turn at a time: what the loop over rules goes by.
use Prim.Native.Nat.{ℕ, suc, ◌+◌, ◌*◌, ◌≤◌, ◌<◌}
use mathlib.Core.List.{List, [], ◌∷◌}
use mathlib.Core.Path.{◌≡◌, refl, sym, ap, ◌∙◌}
use native.Mathlib.Omega.{arith}
use native.Mathlib.Nat.{zero-add, add-zero}
use lib.ListN.{length, length-append, length-map}
use Rattle.names.specs.declared.Manner.{Manner}
use Rattle.names.specs.Read.{Read, got, none, refused, Reader, follow, nothing, pure, map, ◌>>=◌}
use Rattle.names.specs.Chain.{before, chain}
use Rattle.names.specs.Texts.{blanks}
use Rattle.names.proofs.Local.{Ends, past}
use Rattle.names.proofs.Skips.{map_map}
use Rattle.names.proofs.Cut.{blanks_local}
use Rattle.records.specs.Words.{item_record}
use Rattle.lent_slots.specs.Tables.{Tables, all_kept}
use Rattle.lent_slots.proofs.Keeps.{all_append}
use Rattle.items.specs.Musts.{must}
use Rattle.rules.specs.Separators.{next}
use Rattle.rules.specs.Rules.{Rule, rule}
use Rattle.std.specs.Prelude.{Option, Some, None, Result, Ok, Err}
use Rattle.house.specs.Breaks.{first_of, rule_break, rules_break, judged_by}
use Rattle.house.specs.Spans.{Break}
use Rattle.house.proofs.Laws.{first_none, first_assoc, judged_none, judged_first}
use Rattle.names.specs.declared.Cursor.{Cursor}
use Rattle.names.specs.declared.refusals.Reason.{Reason}
use Rattle.names.specs.declared.refusals.Refusal.{Refusal}
use Rattle.text_rules.specs.declared.Known.{Known as KnownRule}
use Rattle.text_rules.specs.Texts.{after_rule, parted, more_rules, no_more, rules, unbroken, judged_rules, rule_records, records, warnings}
use Rattle.text_rules.specs.Into.{Known, known_of, rule_into, Totals, rules_into}
use Rattle.text_rules.specs.Seen.{seen_rule, seen_rule_into, seen_parted}
use Rattle.text_rules.proofs.Moves.{takes, must_next, rules_are}
use Rattle.names.proofs.Upto.{Upto, upto_then}
use Rattle.text_rules.proofs.Takes.{rule_takes}

-- ---- records

-- a rule's records, and those after them
pub records_more : (r : Rule) (l : List Rule) → length (records (r ∷ l)) ≡ suc (length r.1) + length (records l)
unfolding records
records_more r l = length-append (rule_records r) (records l) ∙ ap (λ n. suc n + length (records l)) (length-map r.1 item_record)

-- no rule has no records
pub records_none : length (records []) ≡ 0
unfolding records
records_none = refl

-- ---- a rule of a text

-- a rule of a text takes a byte for each of its records at least, and has at most 6 warnings for each
abbrev pub Taking : ℕ → Rule × Option ℕ → ℕ → Type 0
Taking i x k = (i + suc (length x.0.1) ≤ k) × (x.0.0.warnings ≤ suc (length x.0.1) * 6)

pub more_takes : (m : Manner) (separator : ℕ) (s : List ℕ) (i : ℕ) → Upto (Taking i) (more_rules m (Some separator) s i)
unfolding more_rules parted
more_takes m separator s i =
    upto_then (Taking i) s i _ (blanks s i) (λ _ j e.
    upto_then (Taking i) s j after_rule (rule m separator s j) (λ r k f.
    let h : Upto (λ r k. (r.0.warnings ≤ suc (length r.1) * 6) × (j + suc (length r.1) ≤ k)) (got r k) = rw f at (rule_takes m s separator j) in
    upto_then (Taking i) s k _ (blanks s k) (λ _ l g. upto_then (Taking i) s l _ (must next s l) (λ n q o.
    (omega (arith, h.1, (past blanks_local e).moves, (past blanks_local g).moves, (past must_next o).moves), h.0)))))

-- what is known of a rule, and tables with its records from a slot on
abbrev pub rule_kept : Manner → Tables → ℕ → Rule → Known × Tables
rule_kept m t slot r = (known_of m r, all_kept t slot (rule_records r))

-- the same of a rule and what follows it
abbrev pub both : {A B : Type 0} → (A → B) → A × Option ℕ → B × Option ℕ
both f x = (f x.0, x.1)

-- what is after a rule does not depend on it
after_first : {A B : Type 0} (f : A → B) (a : A) (s : List ℕ) (k : ℕ) → after_rule (f a) s k ≡ map (both f) (after_rule a) s k
after_first {A} {B} f a s k = go (blanks s k)
  where
    last : (l : ℕ) (x : Read (Option ℕ)) → follow s l x (λ n. pure (f a, n)) nothing ≡ follow s k (follow s l x (λ n. pure (a, n)) nothing) (λ y. pure (both f y)) nothing
    last l x = sym (map_map (λ n. (a, n)) (both f) s k l x)

    go : (x : Read (Unit {0})) → follow s k x (λ _. map (λ n. (f a, n)) (must next)) nothing ≡ follow s k (follow s k x (λ _. map (λ n. (a, n)) (must next)) nothing) (λ y. pure (both f y)) nothing
    go (got b l) = last l (must next s l)
    go none = refl
    go (refused e p) = refl

after_same : {A : Type 0} (a b : A) (s : List ℕ) (k l : ℕ) → a ≡ b → k ≡ l → after_rule a s k ≡ after_rule b s l
after_same a b s k l e f = rw (e, f)

module _ (m : Manner) (t t' : Tables) (slot separator : ℕ) (s : List ℕ) (i : ℕ) where
  -- what a turn of the loop reads, from what a rule and what parts it from the next are read as
  pub step : {j : ℕ} (y : Result (KnownRule × Cursor) (Refusal Reason)) {z : Read (Known × Option ℕ)} → blanks s i ≡ got tt j → rule_into m t slot separator s j ≡ seen_rule_into y t' → follow s 0 (seen_rule y) after_rule nothing ≡ z →
      map (both (rule_kept m t slot)) (more_rules m (Some separator)) s i ≡ follow s i z (λ x. pure (both (λ k. (k, t')) x)) nothing
  unfolding more_rules parted
  step {j} y {z} e f g = rw (e, ← g) (go (rule m separator s j) y f)
    where
      changed : {A B : Type 0} (f : A → B) (k : ℕ) (x : Read A) → follow s i x (λ a. pure (f a)) nothing ≡ follow s k x (λ a. pure (f a)) nothing
      changed f k (got a l) = refl
      changed f k none = refl
      changed f k (refused l p) = refl

      go : (r : Read Rule) (y : Result (KnownRule × Cursor) (Refusal Reason)) → follow s j r (λ x. pure (rule_kept m t slot x)) nothing ≡ seen_rule_into y t' →
          follow s i (follow s j r after_rule nothing) (λ x. pure (both (rule_kept m t slot) x)) nothing
          ≡ follow s i (follow s 0 (seen_rule y) after_rule nothing) (λ x. pure (both (λ k. (k, t')) x)) nothing
      go (got r k) (Ok (x, c)) f =
          let known : Known = (x.items, x.warnings, x.first) in
          let b : rule_kept m t slot r ≡ (known, t') = cc in
          let at : k ≡ c.at = cc in
          changed (both (rule_kept m t slot)) k (after_rule r s k)
          ∙ sym (after_first (rule_kept m t slot) r s k) ∙ after_same (rule_kept m t slot r) (known, t') s k c.at b at ∙ after_first (λ (n : Known). (n, t')) known s c.at
          ∙ sym (changed (both (λ (n : Known). (n, t'))) c.at (after_rule known s c.at))
      go (got r k) (Err l) f = cc
      go none (Ok x) f = cc
      go none (Err l) f = cc
      go (refused l p) (Ok x) f = cc
      go (refused l p) (Err o) f = cc

  -- the same where the rule was read, up to c, and what parts it from the next is read as x
  pub step_parted : (known : Known) {j : ℕ} (c : Cursor) (x : Result (Option ℕ × Cursor) (Refusal Reason)) → blanks s i ≡ got tt j → rule_into m t slot separator s j ≡ got (known, t') c.at →
      after_rule tt s c.at ≡ seen_parted x →
      map (both (rule_kept m t slot)) (more_rules m (Some separator)) s i ≡ follow s i (seen_parted x) (λ y. pure (both {B = Known × Tables} (λ _. (known, t')) y)) nothing
  step_parted known c x e f g =
      step (Ok (record { items = known.0; warnings = known.1; first = known.2 }, c)) e f
      (after_first (λ (u : Unit {0}). known) tt s c.at ∙ ap (λ (r : Read (Unit {0} × Option ℕ)). follow s c.at r (λ y. pure (both (λ _. known) y)) nothing) g) ∙ go x
    where
      go : (x : Result (Option ℕ × Cursor) (Refusal Reason)) → follow s i (follow s c.at (seen_parted x) (λ y. pure (both (λ _. known) y)) nothing) (λ y. pure (both {B = Known × Tables} (λ k. (k, t')) y)) nothing
          ≡ follow s i (seen_parted x) (λ y. pure (both {B = Known × Tables} (λ _. (known, t')) y)) nothing
      go (Ok x) = refl
      go (Err r) = refl

-- a rule of so many items, with so many warnings and this first break is read at i, n follows it, up to the place k, and its records are kept from a slot on
pub record Turned (m : Manner) (t t' : Tables) (slot separator : ℕ) (s : List ℕ) (i items warned : ℕ) (broken : Break) (n : Option ℕ) (k : ℕ) : Type 0 where
  pub rule : Rule
  pub is : more_rules m (Some separator) s i ≡ got (rule, n) k
  pub size : length rule.1 ≡ items
  pub warns : rule.0.warnings ≡ warned
  pub mild : warned ≤ suc items * 6
  pub judged : judged_by m (rule_break rule) ≡ broken
  pub all : t' ≡ all_kept t slot (rule_records rule)
  pub later : i + suc items ≤ k
  pub stays : k ≤ length s

module _ (m : Manner) (t t' : Tables) (slot separator : ℕ) (s : List ℕ) (i : ℕ) where
  -- what was found is a rule
  pub turned : {items warned k : ℕ} {broken : Break} {n : Option ℕ} → map (both (rule_kept m t slot)) (more_rules m (Some separator)) s i ≡ got (((items, warned, broken), t'), n) k →
      Turned m t t' slot separator s i items warned broken n k
  turned {items} {warned} {k} {broken} {n} = go (more_rules m (Some separator) s i) refl (takes m (Some separator) s i) (more_takes m separator s i)
    where
      go : (q : Read (Rule × Option ℕ)) → more_rules m (Some separator) s i ≡ q → Ends (λ j. (i < j) × (j ≤ length s)) q → Upto (Taking i) q →
          follow s i q (λ a. pure (both (rule_kept m t slot) a)) nothing ≡ got (((items, warned, broken), t'), n) k → Turned m t t' slot separator s i items warned broken n k
      go (got x j) e p f h =
          let v : both (rule_kept m t slot) x ≡ (((items, warned, broken), t'), n) = cc in
          let a : length x.0.1 ≡ items = ap (λ (y : (Known × Tables) × Option ℕ). y.0.0.0) v in
          let w : x.0.0.warnings ≡ warned = ap (λ (y : (Known × Tables) × Option ℕ). y.0.0.1) v in
          let b : x.1 ≡ n = ap (λ (y : (Known × Tables) × Option ℕ). y.1) v in
          let c : j ≡ k = cc in
          record {
            rule = x.0;
            is = rw (← b, ← c) e;
            size = a;
            warns = w;
            mild = omega (arith, a, w, f.1);
            judged = ap (λ (y : (Known × Tables) × Option ℕ). y.0.0.2) v;
            all = sym (ap (λ (y : (Known × Tables) × Option ℕ). y.0.1) v);
            later = omega (arith, a, f.0, c);
            stays = omega (arith, c, p.1);
          }
      go none e p f h = let z : ◌≡◌ {A = ℕ} 0 1 = cc in absurd (omega arith)
      go (refused l q) e p f h = let z : ◌≡◌ {A = ℕ} 0 1 = cc in absurd (omega arith)

  -- a rule that was read, up to c, and what follows it, up to e
  pub read_turn : {j : ℕ} (known : Known) (c e : Cursor) (n : Option ℕ) → blanks s i ≡ got tt j → rule_into m t slot separator s j ≡ got (known, t') c.at → after_rule tt s c.at ≡ seen_parted (Ok (n, e)) →
      Turned m t t' slot separator s i known.0 known.1 known.2 n e.at
  read_turn known c e n b r a = turned (step_parted m t t' slot separator s i known c (Ok (n, e)) b r a)

  -- what was refused is refused
  turned_refused : {k p : ℕ} → map (both (rule_kept m t slot)) (more_rules m (Some separator)) s i ≡ refused k p → more_rules m (Some separator) s i ≡ refused k p
  turned_refused {k} {p} = go (more_rules m (Some separator) s i)
    where
      go : (q : Read (Rule × Option ℕ)) → follow s i q (λ a. pure (both (rule_kept m t slot) a)) nothing ≡ refused k p → q ≡ refused k p
      go (got x j) h = cc
      go none h = cc
      go (refused l q) h = cc

-- ---- the rules that are left

-- after rules with so many records and warnings and this first break: how many they all have, and tables with the records of these from there on; the first break of all refuses them
abbrev counted : Manner → Tables → ℕ → ℕ → Break → List Rule × Unit {0} → Reader Totals
counted m t slot warned broken l =
    unbroken (slot + length (records l.0), warned + warnings l.0, all_kept t slot (records l.0)) (first_of broken (judged_by m (rules_break l.0)))

abbrev pub keeping : Manner → Tables → ℕ → ℕ → Break → Option ℕ → Reader Totals
keeping m t slot warned broken x = chain (more_rules m) no_more x >>= counted m t slot warned broken

module _ (m : Manner) (t t' : Tables) (slot separator : ℕ) (s : List ℕ) (i w : ℕ) where
  -- records and warnings after a rule's
  after_rule_lem : (first : Break) {items warned k : ℕ} {broken : Break} {n : Option ℕ} (x : Turned m t t' slot separator s i items warned broken n k) (l : List Rule × Unit {0}) →
      counted m t slot w first (before x.rule l) ≡ counted m t' (slot + (items + 1)) (w + warned) (first_of first broken) l
  unfolding records warnings rules_break
  after_rule_lem first {items} {warned} {k} {broken} x l =
      let e : slot + length (rule_records x.rule) ≡ slot + (items + 1) = omega (arith, length-map x.rule.1 item_record, x.size) in
      let q : slot + length (records (x.rule ∷ l.0)) ≡ slot + (items + 1) + length (records l.0) = omega (arith, records_more x.rule l.0, x.size) in
      let v : w + (x.rule.0.warnings + warnings l.0) ≡ w + warned + warnings l.0 = omega (arith, x.warns) in
      let b : first_of first (judged_by m (rules_break (x.rule ∷ l.0))) ≡ first_of (first_of first broken) (judged_by m (rules_break l.0)) =
      ap (first_of first) (judged_first m (rule_break x.rule) (rules_break l.0) ∙ ap (λ (o : Break). first_of o (judged_by m (rules_break l.0))) x.judged)
      ∙ sym (first_assoc first broken (judged_by m (rules_break l.0))) in
      rw (q, v, all_append (rule_records x.rule) (records l.0) t slot, e, ← x.all, b)

  -- by a rule more
  keeping_more : (first : Break) {items warned k q : ℕ} {broken : Break} → Turned m t t' slot separator s i items warned broken (Some q) k →
      keeping m t slot w first (Some separator) s i ≡ keeping m t' (slot + (items + 1)) (w + warned) (first_of first broken) (Some q) s k
  keeping_more first {items} {warned} {k} {q} {broken} x =
      rw (rules_are m (Some separator) s i, x.is)
      (go (chain (more_rules m) no_more (Some q) s k))
    where
      go : (r : Read (List Rule × Unit {0})) → follow s i (follow s k r (λ l. pure (before x.rule l)) nothing) (counted m t slot w first) nothing ≡ follow s k r
          (counted m t' (slot + (items + 1)) (w + warned) (first_of first broken)) nothing
      go (got l j) = ap (λ (f : Reader Totals). f s j) (after_rule_lem first x l)
      go none = refl
      go (refused e p) = refl

  -- by the last
  all_end : {items warned k : ℕ} {broken : Break} (x : Turned m t t' slot separator s i items warned broken None k) →
      chain (more_rules m) no_more (Some separator) s i ≡ got (x.rule ∷ [], tt) k
  unfolding more_rules no_more
  all_end {items} {warned} {k} {broken} x = rules_are m (Some separator) s i
      ∙ ap (λ (r : Read (Rule × Option ℕ)). follow s i r (λ c. map (before c.0) (chain (more_rules m) no_more c.1)) nothing) x.is ∙ rw (rules_are m None s k)

  keeping_end : (first : Break) {items warned k : ℕ} {broken : Break} → Turned m t t' slot separator s i items warned broken None k →
      keeping m t slot w first (Some separator) s i ≡ unbroken (slot + (items + 1), w + warned, t') (first_of first broken) s k
  unfolding records warnings all_kept rules_break
  keeping_end first {items} {warned} {k} {broken} x =
      ap (λ (r : Read (List Rule × Unit {0})). follow s i r (counted m t slot w first) nothing) (all_end x)
      ∙ ap (λ (f : Reader Totals). f s k) (after_rule_lem first x ([], tt))
      ∙ ap (λ (n : ℕ). unbroken (n, w + warned + 0, t') (first_of (first_of first broken) (judged_by m None)) s k) (add-zero (slot + (items + 1)))
      ∙ ap (λ (n : ℕ). unbroken (slot + (items + 1), n, t') (first_of (first_of first broken) (judged_by m None)) s k) (add-zero (w + warned))
      ∙ ap (λ (b : Break). unbroken (slot + (items + 1), w + warned, t') b s k) (ap (first_of (first_of first broken)) (judged_none m) ∙ first_none (first_of first broken))

  -- by a refusal
  keeping_refused : (broken : Break) {k p : ℕ} → map (both (rule_kept m t slot)) (more_rules m (Some separator)) s i ≡ refused k p → keeping m t slot w broken (Some separator) s i ≡ refused k p
  keeping_refused broken e = rw (rules_are m (Some separator) s i, turned_refused m t t' slot separator s i e)

-- from tables t and the place p: so many records are kept, which made the table, with so many warnings and this first break, and the rules from the place i on are left
pub record Filling (m : Manner) (s : List ℕ) (p : ℕ) (t table : Tables) (slot warned i separator : ℕ) (broken : Break) : Type 0 where
  pub words : length table.0 ≡ length t.0
  pub bytes : length table.1 ≡ length t.1
  pub low : slot ≤ i
  pub few : slot ≤ 4096
  pub mild : warned ≤ slot * 6
  pub reads : rules_into m t s p ≡ keeping m table slot warned broken (Some separator) s i

-- before the first rule
pub filling_begin : (m : Manner) (s : List ℕ) (p : ℕ) (t : Tables) → Filling m s p t t 0 0 p 0 None
unfolding rules judged_rules
filling_begin m s p t =
    record {
      words = refl;
      bytes = refl;
      low = omega arith;
      few = omega arith;
      mild = omega arith;
      reads = go (chain (more_rules m) no_more (Some 0) s p);
    }
  where
    value : List Rule × Unit {0} → Totals
    value l = (length (records l.0), warnings l.0, all_kept t 0 (records l.0))

    judged : (l : List Rule × Unit {0}) (j : ℕ) (b : Break) →
        follow s p (unbroken l b s j) (λ k. pure (value k)) nothing ≡ unbroken (0 + length (records l.0), 0 + warnings l.0, all_kept t 0 (records l.0)) b s j
    judged l j None = rw (zero-add (length (records l.0)), zero-add (warnings l.0))
    judged l j (Some r) = refl

    go : (r : Read (List Rule × Unit {0})) → follow s p (follow s p r (λ l. unbroken l (judged_by m (rules_break l.0))) nothing) (λ l. pure
        (value l)) nothing ≡ follow s p r (counted m t 0 0 None) nothing
    go (got l j) = judged l j (judged_by m (rules_break l.0))
    go none = refl
    go (refused k q) = refl

module _ (m : Manner) (s : List ℕ) (p : ℕ) (t table table' : Tables) (slot w i separator : ℕ) (first : Break) (f : Filling m s p t table slot w i separator first) where
  -- a rule more
  pub filling_more : {items warned k q : ℕ} {broken : Break} → length s ≤ 4096 → length table'.0 ≡ length table.0 → length table'.1 ≡ length table.1 →
      Turned m table table' slot separator s i items warned broken (Some q) k →
      Filling m s p t table' (slot + (items + 1)) (w + warned) k q (first_of first broken)
  filling_more small a b x =
      record {
        words = a ∙ f.words;
        bytes = b ∙ f.bytes;
        low = omega (arith, f.low, x.later);
        few = omega (arith, f.low, x.later, x.stays);
        mild = omega (arith, f.mild, x.mild);
        reads = f.reads ∙ keeping_more m table table' slot separator s i w first x;
      }

  -- the last rule
  pub filling_end : {items warned k : ℕ} {broken : Break} → Turned m table table' slot separator s i items warned broken None k →
      rules_into m t s p ≡ unbroken (slot + (items + 1), w + warned, table') (first_of first broken) s k
  filling_end x = f.reads ∙ keeping_end m table table' slot separator s i w first x

  -- a refusal
  pub filling_refused : {k q : ℕ} → map (both (rule_kept m table slot)) (more_rules m (Some separator)) s i ≡ refused k q → rules_into m t s p ≡ refused k q
  filling_refused e = f.reads ∙ keeping_refused m table table' slot separator s i w first e
