-- Quotes and parts of texts put together.
use Rattle.std.specs.Prelude.{if◌then◌else◌}
use Prim.Native.Nat.{ℕ, zero, suc, ◌+◌, ◌-◌, ◌≤◌, ◌<◌}
use mathlib.Core.List.{List, [], ◌∷◌, ◌++◌}
use mathlib.Core.Bool.{Bool, true, false, ◌&&◌, not, true≢false, and-eq-true_iff}
use mathlib.Core.Path.{◌≡◌, refl, sym, ap, ◌∙◌}
use native.Mathlib.Omega.{arith}
use native.Mathlib.Nat.{add-zero, add-suc}
use native.Mathlib.Decide.{dec_lt}
use lib.Dec.{eqb}
use lib.ListN.{length, get_or, take, drop, length-drop, get_or-append}
use lib.Seq.{length-take-le, split_at, take-append-le, take-append-add, drop-append-le, drop_at, get_or-append-add, get_or-drop, take-add}
use borrow.Author.Tests.{eqb-true, not-true}
use Rattle.names.specs.Quotes.{flips, inside_of}
use Rattle.parts.specs.Parts.{part_in, part_end, begins}
use Rattle.parts.proofs.Laws.{inside_next, part_begin, begins_past}

-- ---- quotes

-- a side, turned where p is true
abbrev pub turn : Bool → Bool → Bool
turn p i = if p then not i else i

-- two turns are one
turn_turn : (p q i : Bool) → turn p (turn q i) ≡ turn (turn p q) i
turn_turn true true true = refl
turn_turn true true false = refl
turn_turn true false i = refl
turn_turn false q i = refl

-- in either order
turn_back : (p q i : Bool) → turn q (turn p i) ≡ turn (turn p q) i
turn_back true true true = refl
turn_back true true false = refl
turn_back true false i = refl
turn_back false q i = refl

-- from outside
turn_none : (p : Bool) → turn p false ≡ p
turn_none true = refl
turn_none false = refl

-- a text turns what the text before it made
pub inside_append : (s t : List ℕ) → inside_of (s ++ t) ≡ turn (inside_of s) (inside_of t)
unfolding inside_of
inside_append [] t = refl
inside_append (x ∷ s) t = ap (flips x) (inside_append s t) ∙ turn_turn (eqb x 34) (inside_of s) (inside_of t)

-- after a text whose quotes pair
pub inside_after : (s t : List ℕ) → inside_of s ≡ false → inside_of (s ++ t) ≡ inside_of t
inside_after s t h = rw (inside_append s t, h)

-- ---- the part at the start of a text

-- a part that is a whole text goes on in what stands after
pub part_on : (i : Bool) (x t : List ℕ) → part_in i x ≡ length x → part_in i (x ++ t) ≡ length x + part_in (turn (inside_of x) i) t
unfolding part_in inside_of
part_on i [] t h = omega arith
part_on i (b ∷ x) t h = go (eqb b 59 && not i) (λ e. part_on (flips b i) x t e ∙ ap (λ (j : Bool). length x + part_in j t) (turn_back (eqb b 34) (inside_of x) i)) h
  where
    go : (c : Bool) → (part_in (flips b i) x ≡ length x → part_in (flips b i) (x ++ t) ≡ length x + part_in (turn (flips b (inside_of x)) i) t) →
        (if c then 0 else suc (part_in (flips b i) x)) ≡ suc (length x) → (if c then 0 else suc (part_in (flips b i) (x ++ t))) ≡ suc (length x) + part_in (turn (flips b (inside_of x)) i) t
    go true more e = absurd (omega arith)
    go false more e = omega (arith, more (omega arith))

-- and ends at a `;` if its quotes pair
pub part_cut : (x t : List ℕ) → part_in false x ≡ length x → inside_of x ≡ false → part_in false (x ++ 59 ∷ t) ≡ length x
unfolding part_in
part_cut x t h o = part_on false x (59 ∷ t) h ∙ rw o (add-zero (length x))

-- a part ends in its text
pub part_fits : (i : Bool) (s : List ℕ) → part_in i s ≤ length s
unfolding part_in
part_fits i [] = omega arith
part_fits i (b ∷ s) = go (eqb b 59 && not i) (part_fits (flips b i) s)
  where
    go : (c : Bool) {n : ℕ} → n ≤ length s → (if c then 0 else suc n) ≤ suc (length s)
    go true h = omega arith
    go false h = omega arith

-- a part alone is as long
part_same : (i : Bool) (s : List ℕ) → part_in i (take (part_in i s) s) ≡ part_in i s
unfolding part_in
part_same i [] = refl
part_same i (b ∷ s) = go (eqb b 59 && not i) refl (part_same (flips b i) s)
  where
    go : (c : Bool) → (eqb b 59 && not i) ≡ c → part_in (flips b i) (take (part_in (flips b i) s) s) ≡ part_in (flips b i) s →
        part_in i (take (if c then 0 else suc (part_in (flips b i) s)) (b ∷ s)) ≡ (if c then 0 else suc (part_in (flips b i) s))
    go true e h = refl
    go false e h = rw (e, h)

-- no byte of a part is a `;` outside
pub part_none : (i : Bool) (s : List ℕ) (k : ℕ) → k < part_in i s → (eqb (get_or s k 0) 59 && not (turn (inside_of (take k s)) i)) ≡ false
unfolding part_in inside_of
part_none i [] k h = absurd (omega arith)
part_none i (b ∷ s) zero h = go (eqb b 59 && not i) h
  where
    go : (c : Bool) → 0 < (if c then 0 else suc (part_in (flips b i) s)) → c ≡ false
    go true e = absurd (omega arith)
    go false e = refl
part_none i (b ∷ s) (suc k) h = ap (λ (j : Bool). eqb (get_or s k 0) 59 && not j) (sym (turn_back (eqb b 34) (inside_of (take k s)) i)) ∙ go (eqb b 59 && not i) (part_none (flips b i) s k) h
  where
    go : {A : Type 0} (c : Bool) → (k < part_in (flips b i) s → A) → suc k < (if c then 0 else suc (part_in (flips b i) s)) → A
    go true f e = absurd (omega arith)
    go false f e = f (omega arith)

-- what ends a part is one
pub part_ended : (i : Bool) (s : List ℕ) → part_in i s < length s → (get_or s (part_in i s) 0 ≡ 59) × (turn (inside_of (take (part_in i s) s)) i ≡ false)
unfolding part_in inside_of
part_ended i [] h = absurd (omega arith)
part_ended i (b ∷ s) h = go (eqb b 59 && not i) refl (part_ended (flips b i) s) h
  where
    go : (c : Bool) → (eqb b 59 && not i) ≡ c →
        (part_in (flips b i) s < length s → (get_or s (part_in (flips b i) s) 0 ≡ 59) × (turn (inside_of (take (part_in (flips b i) s) s)) (flips b i) ≡ false)) →
        (if c then 0 else suc (part_in (flips b i) s)) < suc (length s) →
        (get_or (b ∷ s) (if c then 0 else suc (part_in (flips b i) s)) 0 ≡ 59) × (turn (inside_of (take (if c then 0 else suc (part_in (flips b i) s)) (b ∷ s))) i ≡ false)
    go true e f n = let w = (and-eq-true_iff (eqb b 59) (not i)).0 e in (eqb-true b 59 w.0, not-true i w.1)
    go false e f n =
        let w = f (omega arith) in
        (w.0, sym (turn_back (eqb b 34) (inside_of (take (part_in (flips b i) s) s)) i) ∙ w.1)

-- the quotes of a part that is not the last pair
pub part_paired : (s : List ℕ) → part_in false s < length s → inside_of (take (part_in false s) s) ≡ false
part_paired s h = sym (turn_none (inside_of (take (part_in false s) s))) ∙ (part_ended false s h).1

-- ---- where parts begin

-- after a `;` outside, parts begin as in the text there
pub begins_later : (u t : List ℕ) (p : ℕ) → inside_of u ≡ false → begins (u ++ 59 ∷ t) (suc (length u + p)) ≡ begins t p
unfolding begins inside_of
begins_later u t zero h = rw (get_or-append-add u (59 ∷ t) 0 0, take-append-add u (59 ∷ t) 0, inside_after u [] h)
begins_later u t (suc p) h = rw (get_or-append-add u (59 ∷ t) (suc p) 0, take-append-add u (59 ∷ t) (suc p), inside_after u (59 ∷ take p t) h)

-- what stands after a place does not matter
pub begins_earlier : (s t : List ℕ) (p : ℕ) → p ≤ length s → begins (s ++ t) p ≡ begins s p
unfolding begins
begins_earlier s t zero h = refl
begins_earlier s t (suc i) h = rw (get_or-append s t 0 i h, take-append-le i s t (omega arith))

-- a part begins in its text
pub begins_fits : (s : List ℕ) (p : ℕ) → begins s p ≡ true → p ≤ length s
begins_fits s p b = go (dec_lt (length s) p)
  where
    go : Dec (length s < p) → p ≤ length s
    go (yes h) = absurd (true≢false (sym b ∙ sym (begins_past s p h)))
    go (no h) = omega arith

-- it begins outside
pub begins_outside : (s : List ℕ) (p : ℕ) → begins s p ≡ true → inside_of (take p s) ≡ false
unfolding begins inside_of
begins_outside s zero b = refl
begins_outside s (suc i) b =
    let w = (and-eq-true_iff (eqb (get_or s i 0) 59) (not (inside_of (take i s)))).0 b in
    sym (inside_next s i (begins_fits s (suc i) b)) ∙ rw (eqb-true (get_or s i 0) 59 w.0, not-true (inside_of (take i s)) w.1)

-- from a part's beginning on, parts begin as in the text from there
pub begins_from : (s : List ℕ) (p k : ℕ) → begins s p ≡ true → begins s (p + k) ≡ begins (drop p s) k
unfolding begins
begins_from s p zero b = rw (add-zero p) b
begins_from s p (suc k) b = rw (add-suc p k, ← get_or-drop p s k 0, take-add p k s, inside_after (take p s) (take k (drop p s)) (begins_outside s p b))

-- none begins in the first part
pub begins_first_part : (s : List ℕ) (k : ℕ) → k < part_in false s → begins s (suc k) ≡ false
unfolding begins
begins_first_part s k h = rw (← turn_none (inside_of (take k s))) (part_none false s k h)

-- the next begins after the `;` that ends it
pub begins_second : (s : List ℕ) → part_in false s < length s → begins s (suc (part_in false s)) ≡ true
unfolding begins
begins_second s h = rw ((part_ended false s h).0, part_paired s h)

-- none begins in a part, nor at its end
pub begins_none : (s : List ℕ) (p q : ℕ) → begins s p ≡ true → p < q → q ≤ part_end s p → begins s q ≡ false
unfolding part_end
begins_none s p q b h l =
    let e : q ≡ p + suc (q - suc p) = omega arith in
    rw e (begins_from s p (suc (q - suc p)) b ∙ begins_first_part (drop p s) (q - suc p) (omega arith))

-- the next part begins after the `;` that ends one
pub begins_next : (s : List ℕ) (p : ℕ) → begins s p ≡ true → part_end s p < length s → begins s (suc (part_end s p)) ≡ true
unfolding part_end
begins_next s p b h =
    let n = part_in false (drop p s) in
    let l : n < length (drop p s) = rw (length-drop p s) (omega arith) in
    rw (← add-suc p n) (begins_from s p (suc n) b ∙ begins_second (drop p s) l)

-- ---- where parts end

-- a part ends in its text
pub end_fits : (s : List ℕ) (p : ℕ) → p ≤ length s → part_end s p ≤ length s
unfolding part_end
end_fits s p h = omega (arith, part_fits false (drop p s), length-drop p s)

-- what stands after the `;` that ends a part does not matter
part_earlier : (i : Bool) (a b c : List ℕ) → part_in i (a ++ b) < length a → part_in i (a ++ c) ≡ part_in i (a ++ b)
unfolding part_in
part_earlier i [] b c h = absurd (omega arith)
part_earlier i (x ∷ a) b c h = go (eqb x 59 && not i) (part_earlier (flips x i) a b c) h
  where
    go : (q : Bool) {m n : ℕ} → (n < length a → m ≡ n) → (if q then 0 else suc n) < suc (length a) → (if q then 0 else suc m) ≡ (if q then 0 else suc n)
    go true f e = refl
    go false f e = ap suc (f (omega arith))

-- from a later place
pub end_earlier : (a b c : List ℕ) (p : ℕ) → part_end (a ++ b) p < length a → part_end (a ++ c) p ≡ part_end (a ++ b) p
unfolding part_end
end_earlier a b c p h =
    let l : p ≤ length a = omega arith in
    let n : part_in false (drop p a ++ b) < length (drop p a) = rw (← drop-append-le p a b l, length-drop p a) (omega arith) in
    rw (drop-append-le p a c l, drop-append-le p a b l, part_earlier false (drop p a) b c n)

-- the bytes of a part
pub part_bytes_lem : (s : List ℕ) (p : ℕ) → p ≤ length s → drop p (take (part_end s p) s) ≡ take (part_in false (drop p s)) (drop p s)
unfolding part_end
part_bytes_lem s p h = rw (take-add p (part_in false (drop p s)) s) (drop_at (take p s) (take (part_in false (drop p s)) (drop p s)) p (length-take-le p s h))

-- what ends a part that is not the last is a `;`
pub end_split : (s : List ℕ) (p : ℕ) → part_end s p < length s → s ≡ take (part_end s p) s ++ 59 ∷ drop (suc (part_end s p)) s
unfolding part_end
end_split s p h =
    let n = part_in false (drop p s) in
    let l : n < length (drop p s) = rw (length-drop p s) (omega arith) in
    split_at s (p + n) 0 h ∙ ap (λ (b : ℕ). take (p + n) s ++ b ∷ drop (suc (p + n)) s) (sym (get_or-drop p s n 0) ∙ (part_ended false (drop p s) l).0)

-- and its quotes pair
pub end_paired : (s : List ℕ) (p : ℕ) → part_end s p < length s → inside_of (drop p (take (part_end s p) s)) ≡ false
end_paired s p h =
    let e : part_end s p ≡ p + part_in false (drop p s) = part_begin s p in
    let l : part_in false (drop p s) < length (drop p s) = rw (length-drop p s) (omega arith) in
    ap inside_of (part_bytes_lem s p (omega arith)) ∙ part_paired (drop p s) l
