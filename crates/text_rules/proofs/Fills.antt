-- A rule's items kept in tables and judged one by one: what the loop over its pieces goes by.
use Prim.Native.Nat.{ℕ, suc, ◌+◌, ◌*◌, ◌≤◌, ◌<◌}
use mathlib.Core.List.{List, ◌∷◌}
use mathlib.Core.List as list
use mathlib.Core.Logic.{inr}
use mathlib.Core.Path.{◌≡◌, refl, sym, ap, ◌∙◌, subst, fun_ext}
use native.Mathlib.Omega.{arith}
use native.Mathlib.Nat.{zero-add, add-zero}
use lib.ListN.{length}
use Rattle.names.specs.declared.Manner.{Manner}
use Rattle.names.specs.Read.{Read, got, none, refused, Reader, follow, nothing, pure, map}
use Rattle.names.specs.Chain.{chain}
use Rattle.names.proofs.Local.{past_one}
use Rattle.names.proofs.Upto.{Upto}
use Rattle.names.proofs.Skips.{map_map}
use Rattle.lent_slots.specs.Tables.{as_words, as_bytes, Tables, kept_in, all_kept}
use Rattle.records.specs.Warnings.{item_warnings}
use Rattle.records.specs.Words.{Placed, head_words, item_record}
use Rattle.lent_slots.proofs.Keeps.{length_kept, all_head}
use Rattle.records.proofs.Sixteen.{head_sixteen}
use Rattle.records.proofs.Warned.{item_warnings_few}
use Rattle.rules.specs.Pieces.{more, end, piece}
use Rattle.rules.specs.Rules.{opening, items_warnings, head_of, Rule, rule_of, after_opening, rule}
use Rattle.records.specs.declared.Comment.{Comment}
use Rattle.rules.specs.declared.Opening.{Opening}
use Rattle.rules.specs.declared.Stage.{Stage}
use Rattle.rules.specs.declared.Tail.{Tail}
use Rattle.records.specs.declared.Head.{Head}
use Rattle.rules.proofs.Cut.{Found, more_local, rule_local}
use Rattle.rules.proofs.Places.{more_inside}
use Rattle.rules.proofs.Chained.{piece_more, piece_end, piece_none, piece_tail, piece_refusal}
use Rattle.rules.proofs.Small.{Small, SmallEnd, end_small, wins_small}
use Rattle.house.specs.Breaks.{begun, with_item, with_items}
use Rattle.house.specs.Spans.{Break}
use Rattle.house.specs.declared.Judgement.{Judgement}
use Rattle.names.specs.declared.refusals.Reason.{Reason}
use Rattle.house.proofs.Laws.{rule_first}
use Rattle.text_rules.specs.Texts.{rule_records}
use Rattle.text_rules.specs.Into.{Known, known_of, rule_into}

-- two functions that agree make the same of what is read
pub map_same : {A B : Type 0} (f g : A → B) (m : Reader A) (s : List ℕ) (i : ℕ) → ((a : A) → f a ≡ g a) → map f m s i ≡ map g m s i
map_same {A} {B} f g m s i h = ap (λ (k : A → B). map k m s i) (fun_ext h)

-- a rule whose opening is refused
pub opening_refused : (m : Manner) (separator slot : ℕ) (s : List ℕ) (t : Tables) (i : ℕ) {k p : ℕ} → opening s i ≡ refused k p → rule_into m t slot separator s i ≡ refused k p
unfolding rule
opening_refused m separator slot s t i e = rw e

-- a rule's head and its first break, and tables with its items
abbrev pub Filled : Type 0
Filled = (Head × Break) × Tables

module _ (m : Manner) (place separator : ℕ) (wide : Comment) (slot : ℕ) where
  -- of pieces after n items, which have w warnings and are judged so far as h says: the rule's head and first break, and tables with these items after those
  abbrev filled : Tables → Judgement Reason → ℕ → ℕ → List Placed × Tail → Filled
  filled t h n w r =
      let head = head_of place separator r.1 wide (n + length r.0) (w + items_warnings r.0) in
      ((head, (with_items m h r.0).first), all_kept t (slot + suc n) (list.map item_record r.0))

  -- what is left of a rule from a stage on
  abbrev pub left : Tables → Judgement Reason → ℕ → ℕ → Stage → Reader Filled
  left t h n w x = map (filled t h n w) (chain (more m) end x)

  -- with the head in its slot
  abbrev pub headed : Filled → Known × Tables
  headed x = ((x.0.0.items, x.0.0.warnings, x.0.1), kept_in x.1 slot (head_words x.0.0))

  module _ (s : List ℕ) (t : Tables) where
    -- after the opening: no item yet
    left_opening : {o : Opening} {j : ℕ} → opening s place ≡ got o j → wide ≡ o.comment → rule_into m t slot separator s place ≡ map headed (left t (begun m separator place) 0 0 o.stage) s j
    unfolding rule after_opening
    left_opening {o} {j} e w =
        let none = begun m separator place in
        rw (e, ← w)
        (map_map (rule_of place separator wide) (λ r. (known_of m r, all_kept t slot (rule_records r))) s place j (chain (more m) end o.stage s j)
        ∙ map_same _ (λ r. headed (filled t none 0 0 r)) (chain (more m) end o.stage) s j same
        ∙ sym (map_map (filled t none 0 0) headed s j j (chain (more m) end o.stage s j)))
      where
        same : (r : List Placed × Tail) →
            let l = rule_of place separator wide r in (known_of m l, all_kept t slot (rule_records l)) ≡ headed (filled t (begun m separator place) 0 0 r)
        same r =
            let l = rule_of place separator wide r in
            let h = l.0 in
            let rs = list.map item_record r.0 in
            let one : slot + suc 0 ≡ suc slot = omega arith in
            rw (zero-add (length r.0), zero-add (items_warnings r.0), one)
            (ap (λ (b : Break). ((length r.0, h.warnings, b), all_kept t slot (rule_records l))) (sym (rule_first m l))
            ∙ ap (λ (u : Tables). ((length r.0, h.warnings, (with_items m (begun m separator place) r.0).first), u)) (sym (all_head rs t slot (head_words h) (head_sixteen h))))

    module _ (h : Judgement Reason) (n w : ℕ) (x : Stage) (i : ℕ) where
      -- an item more
      left_more : {a : Placed} {y : Stage} {j : ℕ} → more m x s i ≡ got (a, y) j →
          left t h n w x s i ≡ left (kept_in t (slot + (n + 1)) (item_record a)) (with_item m h a) (n + 1) (w + item_warnings a.0) y s j
      unfolding all_kept items_warnings
      left_more {a} {y} {j} e =
          let p : slot + suc n ≡ slot + (n + 1) = omega arith in
          let q : suc (slot + (n + 1)) ≡ slot + suc (n + 1) = omega arith in
          piece_more m (filled t h n w) x s i e
          ∙ map_same _ (filled (kept_in t (slot + (n + 1)) (item_record a)) (with_item m h a) (n + 1) (w + item_warnings a.0)) (chain (more m) end y) s j (λ r.
          let rs = list.map item_record r.0 in
          let b = (with_items m (with_item m h a) r.0).first in
          let q₂ : n + suc (length r.0) ≡ n + 1 + length r.0 = omega arith in
          let v : w + (item_warnings a.0 + items_warnings r.0) ≡ w + item_warnings a.0 + items_warnings r.0 = omega arith in
          let head : ℕ → ℕ → Head = head_of place separator r.1 wide in
          ap (λ (k : ℕ). ((head k (w + items_warnings (a ∷ r.0)), b), all_kept t (slot + suc n) (item_record a ∷ rs))) q₂
          ∙ ap (λ (k : ℕ). ((head (n + 1 + length r.0) k, b), all_kept t (slot + suc n) (item_record a ∷ rs))) v
          ∙ ap (λ (k : ℕ). ((head (n + 1 + length r.0) (w + item_warnings a.0 + items_warnings r.0), b), all_kept t k (item_record a ∷ rs))) p
          ∙ ap (λ (k : ℕ). ((head (n + 1 + length r.0) (w + item_warnings a.0 + items_warnings r.0), b), all_kept (kept_in t (slot + (n + 1)) (item_record a)) k rs)) q)

      -- a refusal
      pub left_refused : {k p : ℕ} → piece m x s i ≡ refused k p → left t h n w x s i ≡ refused k p
      left_refused e = piece_refusal m x s i (filled t h n w) e

      -- the end
      pub left_end : {b : Tail} {j : ℕ} → piece m x s i ≡ got (inr b) j → left t h n w x s i ≡ got ((head_of place separator b wide n w, h.first), t) j
      unfolding all_kept items_warnings
      left_end {b} e = piece_end m (filled t h n w) x s i (piece_none m x s i e) ∙ rw (piece_tail m x s i e, add-zero n, add-zero w)

-- ---- a turn

-- from tables t, a stage y and a place j: n items with w warnings are kept and judged, which made the table and the judgement h, and the stage x at the place i is what is left
pub record Turn (m : Manner) (place separator : ℕ) (wide : Comment) (slot : ℕ) (s : List ℕ) (t : Tables) (y : Stage) (j : ℕ)
    (table : Tables) (h : Judgement Reason) (n w : ℕ) (x : Stage) (i : ℕ) : Type 0 where
  pub low : n ≤ i
  pub few : n ≤ length s
  pub mild : w ≤ n * 6
  pub words : length table.0 ≡ length t.0
  pub bytes : length table.1 ≡ length t.1
  pub reads : left m place separator wide slot table h n w x s i ≡ left m place separator wide slot t (begun m separator place) 0 0 y s j

module _ (m : Manner) (place separator : ℕ) (wide : Comment) (slot : ℕ) (s : List ℕ) (t : Tables) (y : Stage) (j : ℕ) where
  -- no item yet
  pub turn_begin : Turn m place separator wide slot s t y j t (begun m separator place) 0 0 y j
  turn_begin = record { low = omega arith; few = omega arith; mild = omega arith; words = refl; bytes = refl; reads = refl }

  -- an item more
  pub turn_more : (table : Tables) (h : Judgement Reason) (n w : ℕ) (x : Stage) (i : ℕ) {a : Placed} {x₂ : Stage} {k : ℕ} →
      Turn m place separator wide slot s t y j table h n w x i → more m x s i ≡ got (a, x₂) k →
      Turn m place separator wide slot s t y j (kept_in table (slot + (n + 1)) (item_record a)) (with_item m h a) (n + 1) (w + item_warnings a.0) x₂ k
  turn_more table h n w x i {a} z e =
      let p = past_one (more_local m x) e in
      record {
        low = omega (arith, z.low, p);
        few = omega (arith, z.low, p);
        mild = omega (arith, z.mild, item_warnings_few a.0);
        words = length_kept as_words table.0 (slot + (n + 1)) (item_record a) ∙ z.words;
        bytes = length_kept as_bytes table.1 (slot + (n + 1)) (item_record a) ∙ z.bytes;
        reads = sym (left_more m place separator wide slot s table h n w x i e) ∙ z.reads;
      }

  -- the rule, from what is left
  pub turn_whole : {o : Opening} (table : Tables) (h : Judgement Reason) (n w : ℕ) (x : Stage) (i : ℕ) {r : Read Filled} → opening s place ≡ got o j → wide ≡ o.comment →
      y ≡ o.stage → Turn m place separator wide slot s t y j table h n w x i →
      left m place separator wide slot table h n w x s i ≡ r → rule_into m t slot separator s place ≡ follow s j r (λ f. pure (headed m place separator wide slot f)) nothing
  turn_whole table h n w x i e c q z f = left_opening m place separator wide slot s t e c ∙ rw (← q, ← z.reads, f)

-- ---- a head's numbers

-- the head's comment stands in its text
pub head_small : (m : Manner) (place separator : ℕ) (wide : Comment) (b : Tail) (s : List ℕ) (n w i k : ℕ) (x : Stage) → Small (length s) wide →
    piece m x s i ≡ got (inr b) k → Small (length s) (head_of place separator b wide n w).comment
head_small m place separator wide b s n w i k x h e = wins_small (length s) b.comment wide (subst (Found (SmallEnd (length s))) (piece_tail m x s i e) (end_small s x i)) h

-- and the rule begins in it
pub head_placed : (m : Manner) (t : Tables) (slot separator : ℕ) (s : List ℕ) (i : ℕ) {x : Known × Tables} {k : ℕ} → rule_into m t slot separator s i ≡ got x k → i ≤ length s
head_placed m t slot separator s i {x} {k} e = go (rule m separator s i) refl e
  where
    go : (r : Read Rule) → rule m separator s i ≡ r → follow s i r (λ y. pure (known_of m y, all_kept t slot (rule_records y))) nothing ≡ got x k → i ≤ length s
    go (got y j) h e = let p = past_one (rule_local m separator) h in omega (arith, p)
    go none h e = absurd (let z : ◌≡◌ {A = ℕ} 0 1 = cc in omega arith)
    go (refused n p) h e = absurd (let z : ◌≡◌ {A = ℕ} 0 1 = cc in omega arith)

-- an item's place is a place of its text
pub item_placed : (m : Manner) (x : Stage) (s : List ℕ) (i : ℕ) {a : Placed} {y : Stage} {j : ℕ} → more m x s i ≡ got (a, y) j → a.1 ≤ length s
item_placed m x s i {a} {y} e =
    let h = subst (Upto (λ (b : Placed × Stage) k. (i ≤ b.0.1) × (b.0.1 < k))) e (more_inside m s x i) in
    omega (arith, h.1, (past_one (more_local m x) e).1)
