-- One part of a sheet is exchanged for other bytes: what holds of the other parts (specs/Exchanged.antt).
use Prim.Native.Nat.{ℕ, zero, suc, ◌+◌, ◌-◌, ◌≤◌, ◌<◌}
use mathlib.Core.List.{List, [], ◌∷◌, ◌++◌, append-nil, append_assoc}
use mathlib.Core.Bool.{true, false, true≢false}
use mathlib.Core.Logic.{◌≢◌, ◌⊎◌, inl, inr}
use mathlib.Core.Path.{◌≡◌, sym, ap, ◌∙◌, subst}
use native.Mathlib.Omega.{arith}
use native.Mathlib.Decide.{dec_lt}
use lib.Dec.{ltb}
use lib.ListN.{length, length-append, take}
use lib.Seq.{take-append-le, take-append_seam, drop-append_seam, get_or-append_seam}
use borrow.Author.Tests.{le-ltb, lt-ltb}
use Rattle.names.specs.declared.Manner.{Manner}
use Rattle.names.specs.Quotes.{inside_of}
use Rattle.parts.specs.Parts.{begins, part_in, part_end}
use Rattle.lent_slots.specs.Tables.{Layout}
use Rattle.sheet.specs.Sheets.{written_as}
use Rattle.sheet.specs.PartReadings.{with_next, part_by}
use Rattle.demands.specs.Moved.{moved_part}
use Rattle.demands.specs.Exchanged.{Exchanged, Unchanged, before, after, Was, UnchangedCall}
use Rattle.sheet.specs.declared.PartAnswer.{PartAnswer}
use Rattle.parts.proofs.Laws.{begins_past}
use Rattle.parts.proofs.PartLaws.{part_cut, part_ended, part_paired, begins_later, begins_earlier, begins_from, begins_none, end_earlier}
use Rattle.demands.proofs.PartMoves.{part_twice, part_still, part_move}

-- ---- what stands after a part

-- nothing, or a `;`, before which the quotes pair
data Rest (x : List ℕ) : List ℕ → Type 0 where
  no_rest : Rest x []
  rest : (t : List ℕ) → inside_of x ≡ false → Rest x (59 ∷ t)

-- so it is where x is a part at the start of a text
rest_of : (x b : List ℕ) → part_in false (x ++ b) ≡ length x → Rest x b
rest_of x [] h = no_rest
rest_of x (c ∷ t) h =
    let l : part_in false (x ++ c ∷ t) < length (x ++ c ∷ t) = simp length-append (omega arith) in
    let e : c ≡ 59 = rw (h, get_or-append_seam x c t 0) at (part_ended false (x ++ c ∷ t) l).0 in
    let o : inside_of x ≡ false = rw (h, take-append_seam x (c ∷ t)) at (part_paired (x ++ c ∷ t) l) in
    rw e (rest t o)

-- ---- a part after a `;` that stands after z, whose quotes pair

module _ (a z t : List ℕ) (b : begins (a ++ (z ++ 59 ∷ t)) (length a) ≡ true) (o : inside_of z ≡ false) where
  -- it begins as in the text there
  after_begins : (q : ℕ) → begins (a ++ (z ++ 59 ∷ t)) (length a + length z + suc q) ≡ begins t q
  after_begins q =
      let e : length a + length z + suc q ≡ length a + suc (length z + q) = omega arith in
      rw (e, begins_from (a ++ (z ++ 59 ∷ t)) (length a) (suc (length z + q)) b, drop-append_seam a (z ++ 59 ∷ t)) (begins_later z t q o)

  -- and is answered so
  after_moves : (m : Manner) (q n : ℕ) → length (a ++ (z ++ 59 ∷ t)) ≤ 4096 → begins t q ≡ true →
      part_by m (a ++ (z ++ 59 ∷ t)) (length a + length z + suc q) n ≡ moved_part (length a + length z + 1) (part_by m t q n)
  after_moves m q n h k =
      let u = a ++ (z ++ (59 ∷ [])) in
      let whole : u ++ t ≡ a ++ (z ++ 59 ∷ t) = append_assoc a (z ++ (59 ∷ [])) t ∙ ap (λ r. a ++ r) (append_assoc z (59 ∷ []) t) in
      let size : length u ≡ length a + length z + 1 = simp length-append (omega arith) in
      let place : length u + q ≡ length a + length z + suc q = omega arith in
      rw (← whole, ← place, ← size) (part_move m u t q n (rw whole h) (rw (whole, place) (after_begins q ∙ k)) k)

-- ---- where parts begin

-- the new part begins where the old one did, and ends with its bytes
itself : {a x y b : List ℕ} → Exchanged a x y b → Rest x b → (begins (a ++ (y ++ b)) (length a) ≡ true) × (part_end (a ++ (y ++ b)) (length a) ≡ length a + length y)
unfolding part_end
itself {a} {x} {y} {b} z l = (
  begins_earlier a (y ++ b) (length a) (omega arith) ∙ sym (begins_earlier a (x ++ b) (length a) (omega arith)) ∙ z.part_begins,
  ap (λ s. length a + part_in false s) (drop-append_seam a (y ++ b)) ∙ ap (λ n. length a + n) (ends l),
)
  where
    ends : {b : List ℕ} → Rest x b → part_in false (y ++ b) ≡ length y
    ends no_rest = rw (append-nil y) z.quoted
    ends (rest t o) = part_cut y t z.quoted z.pairs

-- a place at which another part begins stands before a part or after its end
before_or_after : (s : List ℕ) (m p : ℕ) → begins s m ≡ true → begins s p ≡ true → p ≢ m → (p < m) ⊎ (part_end s m < p)
before_or_after s m p c k d = go (dec_lt p m) (dec_lt (part_end s m) p)
  where
    go : Dec (p < m) → Dec (part_end s m < p) → (p < m) ⊎ (part_end s m < p)
    go (yes h) l = inl h
    go (no h) (yes l) = inr l
    go (no h) (no l) = absurd (true≢false (sym k ∙ begins_none s m p c (omega arith) (omega arith)))

-- none begins after the sheet's end
past : (a w : List ℕ) (r : ℕ) → 0 < r → begins (a ++ (w ++ [])) (length a + length w + r) ≡ false
past a w r h = sym (begins_past (a ++ (w ++ [])) (length a + length w + r) (simp (length-append, append-nil) (omega arith)))

-- ---- a part after the exchanged one

module _ {a x y : List ℕ} where
  -- it begins in both sheets, or in neither
  places : {b : List ℕ} → Exchanged a x y b → Rest x b → (r : ℕ) → 0 < r → begins (a ++ (y ++ b)) (length a + length y + r) ≡ begins (a ++ (x ++ b)) (length a + length x + r)
  places z no_rest r h = rw (past a y r h, past a x r h)
  places z (rest t o) zero h = absurd (omega arith)
  places z (rest t o) (suc q) h = after_begins a y t (itself z (rest t o)).0 z.pairs q ∙ sym (after_begins a x t z.part_begins o q)

  -- its two answers and their records are the same, each moved by what makes up for the lengths
  shifts : (m : Manner) {b : List ℕ} → Exchanged a x y b → Rest x b → (r n d e : ℕ) → 0 < r → d + length x ≡ e + length y → begins (a ++ (x ++ b)) (length a + length x + r) ≡ true →
      moved_part d (part_by m (a ++ (x ++ b)) (length a + length x + r) n) ≡ moved_part e (part_by m (a ++ (y ++ b)) (length a + length y + r) n)
  shifts m z no_rest r n d e h l k = absurd (true≢false (sym k ∙ past a x r h))
  shifts m z (rest t o) zero n d e h l k = absurd (omega arith)
  shifts m z (rest t o) (suc q) n d e h l k =
      let c : begins t q ≡ true = sym (after_begins a x t z.part_begins o q) ∙ k in
      let f : d + (length a + length x + 1) ≡ e + (length a + length y + 1) = omega arith in
      rw (
        after_moves a x t z.part_begins o m q n z.old_fits c,
        after_moves a y t (itself z (rest t o)).0 z.pairs m q n z.new_fits c,
        part_twice d (length a + length x + 1) (part_by m t q n),
        part_twice e (length a + length y + 1) (part_by m t q n),
        f,
      )

-- ---- the theorems

module _ {a x y b : List ℕ} (z : Exchanged a x y b) where
  -- what stands after x
  after_x : Rest x b
  unfolding part_end
  after_x =
      let e : part_in false (x ++ b) ≡ length x = omega (arith, z.part_ends, ap (part_in false) (drop-append_seam a (x ++ b))) in
      rest_of x b e

  -- a part before x ends before it
  ends_before : (p : ℕ) → p < length a → begins (a ++ (x ++ b)) p ≡ true → part_end (a ++ (x ++ b)) p < length a
  ends_before p h k = go (dec_lt (part_end (a ++ (x ++ b)) p) (length a))
    where
      go : Dec (part_end (a ++ (x ++ b)) p < length a) → part_end (a ++ (x ++ b)) p < length a
      go (yes l) = l
      go (no l) = absurd (true≢false (sym z.part_begins ∙ begins_none (a ++ (x ++ b)) p (length a) k h (omega arith)))

  -- y is a part of the second sheet
  pub exchange_itself : (begins (a ++ (y ++ b)) (length a) ≡ true) × (part_end (a ++ (y ++ b)) (length a) ≡ length a + length y)
  exchange_itself = itself z after_x

  -- a part before x is a part of the second sheet, and is answered as it was
  pub exchange_before : (m : Manner) (p n : ℕ) → p < length a → begins (a ++ (x ++ b)) p ≡ true → (begins (a ++ (y ++ b)) p ≡ true) × (part_by m (a ++ (y ++ b)) p n ≡ part_by m (a ++ (x ++ b)) p n)
  unfolding part_by with_next
  exchange_before m p n h k =
      let end = part_end (a ++ (x ++ b)) p in
      let ends : end < length a = ends_before p h k in
      let begun : begins (a ++ (y ++ b)) p ≡ true = begins_earlier a (y ++ b) p (omega arith) ∙ sym (begins_earlier a (x ++ b) p (omega arith)) ∙ k in
      let up_to : (t : List ℕ) → take end (a ++ t) ≡ take end a = λ t. take-append-le end a t (omega arith) in
      let goes_on_lem : (t : List ℕ) → ltb end (length (a ++ t)) ≡ true = λ t. lt-ltb end (length (a ++ t)) (simp length-append (omega arith)) in (
        begun,
        rw (
          le-ltb 4096 (length (a ++ (y ++ b))) z.new_fits,
          le-ltb 4096 (length (a ++ (x ++ b))) z.old_fits,
          begun,
          k,
          end_earlier a (x ++ b) (y ++ b) p ends,
          up_to (x ++ b),
          up_to (y ++ b),
          goes_on_lem (x ++ b),
          goes_on_lem (y ++ b),
        ),
      )

  module _ (m : Manner) (r n : ℕ) (h : 0 < r) (k : begins (a ++ (x ++ b)) (length a + length x + r) ≡ true) where
    -- a part after x is a part of the second sheet, and is answered as it was, with its places shifted
    pub exchange_after : (begins (a ++ (y ++ b)) (length a + length y + r) ≡ true) ×
        (moved_part (length y) (part_by m (a ++ (x ++ b)) (length a + length x + r) n) ≡ moved_part (length x) (part_by m (a ++ (y ++ b)) (length a + length y + r) n))
    exchange_after = (places z after_x r h ∙ k, shifts m z after_x r n (length y) (length x) h (omega arith) k)

    -- where y is the longer, its places are later by the difference
    pub exchange_longer : length x ≤ length y → part_by m (a ++ (y ++ b)) (length a + length y + r) n ≡ moved_part (length y - length x) (part_by m (a ++ (x ++ b)) (length a + length x + r) n)
    exchange_longer l = sym (shifts m z after_x r n (length y - length x) 0 h (omega arith) k ∙ part_still (part_by m (a ++ (y ++ b)) (length a + length y + r) n))

    -- where x is, they were later
    pub exchange_shorter : length y ≤ length x → part_by m (a ++ (x ++ b)) (length a + length x + r) n ≡ moved_part (length x - length y) (part_by m (a ++ (y ++ b)) (length a + length y + r) n)
    exchange_shorter l = sym (part_still (part_by m (a ++ (x ++ b)) (length a + length x + r) n)) ∙ shifts m z after_x r n 0 (length x - length y) h (omega arith) k

  -- the exchange: each other part of the first sheet is left
  pub exchange : (m : Manner) (p n : ℕ) → begins (a ++ (x ++ b)) p ≡ true → p ≢ length a → Unchanged m a x y b n p
  exchange m p n k d = go (before_or_after (a ++ (x ++ b)) (length a) p z.part_begins k d)
    where
      go : (p < length a) ⊎ (part_end (a ++ (x ++ b)) (length a) < p) → Unchanged m a x y b n p
      go (inl h) = let w = exchange_before m p n h k in before h w.0 w.1
      go (inr h) =
          let r = p - (length a + length x) in
          let e : length a + length x + r ≡ p = omega (arith, z.part_ends) in
          let l : 0 < r = omega (arith, z.part_ends) in
          let w = exchange_after m r n l (rw e k) in
          subst (Unchanged m a x y b n) e (after r l w.0 w.1)

  -- and each other part of the second was one of the first
  pub exchange_others : (p : ℕ) → begins (a ++ (y ++ b)) p ≡ true → p ≢ length a → Was a x y b p
  exchange_others p k d = go (before_or_after (a ++ (y ++ b)) (length a) p exchange_itself.0 k d)
    where
      go : (p < length a) ⊎ (part_end (a ++ (y ++ b)) (length a) < p) → Was a x y b p
      go (inl h) = before h (begins_earlier a (x ++ b) p (omega arith) ∙ sym (begins_earlier a (y ++ b) p (omega arith)) ∙ k)
      go (inr h) =
          let r = p - (length a + length y) in
          let e : length a + length y + r ≡ p = omega (arith, exchange_itself.1) in
          let l : 0 < r = omega (arith, exchange_itself.1) in
          subst (Was a x y b) e (after r l (sym (places z after_x r l) ∙ rw e k))

  -- the exchange, at a call that gives what the part comes to with room for n words
  pub exchange_called : (m : Manner) {A : Type 0} (d : Layout A) (read : List ℕ → ℕ → List A → PartAnswer × List A) (n : ℕ) (t : List A) → ((s : List ℕ) (p : ℕ) →
      read s p t ≡ written_as d t (part_by m s p n)) →
      (p : ℕ) → begins (a ++ (x ++ b)) p ≡ true → p ≢ length a → UnchangedCall m d read n t a x y b p
  exchange_called m d read n t is p k e = go (exchange m p n k e)
    where
      go : {p : ℕ} → Unchanged m a x y b n p → UnchangedCall m d read n t a x y b p
      go (before {p} h c e) = before h (rw (← e) (is (a ++ (y ++ b)) p))
      go (after r h c e) =
          let q = length a + length y + r in
          after r (part_by m (a ++ (y ++ b)) q n) h e (is (a ++ (y ++ b)) q)
