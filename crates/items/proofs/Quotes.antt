-- A broken quote is one in a text alone and in a longer one: before a `;` outside quotes a quote that opens has its closing quote.
use Rattle.std.specs.Prelude.{if◌then◌else◌}
use Rattle.std.specs.List.{list_any}
use Prim.Native.Nat.{ℕ, suc, ◌+◌, ◌-◌, ◌<◌}
use mathlib.Core.List.{List, [], ◌∷◌, ◌++◌, append-nil}
use mathlib.Core.Bool.{Bool, true, false, ◌||◌, not, true≢false}
use mathlib.Core.Path.{◌≡◌, refl, sym, ap, ◌∙◌}
use native.Mathlib.Omega.{arith}
use native.Mathlib.Numerals.{add-one}
use native.Mathlib.Decide.{dec_lt}
use native.Mathlib.Nat.{add-suc}
use borrow.Author.Tests.{ne_eqb}
use lib.Dec.{eqb}
use Rattle.std.proofs.lemmas.List.{take_all, length-drop}
use lib.ListN.{length, get_or, take, drop, get_or-append, get_or-eq_default, drop_of_length-le}
use lib.Seq.{drop-cons, get_or-append-add, get_or_at, drop-append-le, drop-append-add}
use Rattle.names.specs.Quotes.{inside_of}
use Rattle.names.specs.Refusals.{no_shape, broken_quote}
use Rattle.names.proofs.Local.{Number, Stop, Follows, stop_end, stop_at, Side, At}
use Rattle.names.specs.Read.{refused}
use Rattle.names.specs.declared.Manner.TheVariants.{Second}
use Rattle.items.specs.Musts.{has_quote, at_broken_quote, missing_at, missing}
use Rattle.items.specs.Seen.{Lacking}
use Rattle.names.specs.Refusals.{number}
use Rattle.names.specs.declared.refusals.Reason.{Reason}
use Rattle.names.specs.declared.refusals.Refusal.{Refusal}

-- a text that leads inside has a quote
inside_quote : (x : List ℕ) → inside_of x ≡ true → has_quote x ≡ true
unfolding inside_of has_quote
inside_quote [] e = e
inside_quote (b ∷ x) e = go (inside_quote x) (eqb b 34) (inside_of x) refl e
  where
    go : (inside_of x ≡ true → has_quote x ≡ true) → (t i : Bool) → inside_of x ≡ i → (if t then not i else i) ≡ true → (t || has_quote x) ≡ true
    go f true i h e = refl
    go f false i h e = f (h ∙ e)

-- so has a longer one
quote_append : (x y : List ℕ) → has_quote x ≡ true → has_quote (x ++ y) ≡ true
unfolding has_quote
quote_append [] y e = absurd (true≢false (sym e))
quote_append (b ∷ x) y e = go (quote_append x y) (eqb b 34) e
  where
    go : (has_quote x ≡ true → has_quote (x ++ y) ≡ true) → (t : Bool) → (t || has_quote x) ≡ true → (t || has_quote (x ++ y)) ≡ true
    go f true e = refl
    go f false e = f e

-- and it has bytes
quote_bytes : (s : List ℕ) (i : ℕ) → has_quote (drop i s) ≡ true → i < length s
unfolding has_quote
quote_bytes s i e = go (dec_lt i (length s))
  where
    go : Dec (i < length s) → i < length s
    go (yes h) = h
    go (no h) = absurd (true≢false (sym e ∙ ap has_quote (drop_of_length-le s {i = i} (omega arith))))

module _ (s t : List ℕ) (i : ℕ) (w : Side false s i) where
  -- a quote that opens is closed in its text
  closed : i < length s → eqb (get_or s i 0) 34 ≡ true → has_quote (drop (suc i) s) ≡ true
  unfolding inside_of
  closed h e = inside_quote (drop (suc i) s) (go (inside_of (drop (suc i) s)) (rw e at (ap inside_of (sym (drop-cons s i 0 h)) ∙ w.side)))
    where
      go : (b : Bool) → not b ≡ false → b ≡ true
      go true e = refl
      go false e = absurd (true≢false e)

  broken_cut : at_broken_quote (s ++ 59 ∷ t) i ≡ at_broken_quote s i
  unfolding at_broken_quote
  broken_cut = at (dec_lt i (length s)) (eqb (get_or s i 0) 34) refl
    where
      same : i < length s → get_or (s ++ 59 ∷ t) i 0 ≡ get_or s i 0
      same h = get_or-append s (59 ∷ t) 0 i h

      later : i < length s → has_quote (drop (suc i) s) ≡ true →
          (eqb (get_or (s ++ 59 ∷ t) (suc i) 0) 34 || not (has_quote (drop (suc i) (s ++ 59 ∷ t)))) ≡ (eqb (get_or s (suc i) 0) 34 || not (has_quote (drop (suc i) s)))
      later h q =
          let n : suc i < length s = quote_bytes s (suc i) q in
          let d : drop (suc i) (s ++ 59 ∷ t) ≡ drop (suc i) s ++ 59 ∷ t = drop-append-le (suc i) s (59 ∷ t) (omega arith) in
          rw (d, quote_append (drop (suc i) s) (59 ∷ t) q, q, get_or-append s (59 ∷ t) 0 (suc i) n)

      at : Dec (i < length s) → (b : Bool) → eqb (get_or s i 0) 34 ≡ b → at_broken_quote (s ++ 59 ∷ t) i ≡ at_broken_quote s i
      at (yes h) true e = rw (same h, e) (later h (closed h e))
      at (yes h) false e = rw (same h, e)
      at (no h) b e = rw (get_or_at s 59 t 0 i (omega (arith, w.fits)), get_or-eq_default s 0 {n = i} (omega arith))

-- the same after any text
broken_after : (u s : List ℕ) (i : ℕ) → at_broken_quote (u ++ s) (length u + i) ≡ at_broken_quote s i
unfolding at_broken_quote
broken_after u s i = rw (get_or-append-add u s i 0, ← add-suc (length u) i, get_or-append-add u s (suc i) 0, drop-append-add u s (suc i))

pub missing_alike : (u s v : List ℕ) (i : ℕ) → Follows Stop v → At v false s i → missing_at (u ++ (s ++ v)) (length u + i) ≡ missing_at s i
unfolding missing_at
missing_alike u s v i z w = rw (broken_after u (s ++ v) i, cut s v i z w)
  where
    cut : (s v : List ℕ) (i : ℕ) → Follows Stop v → At v false s i → at_broken_quote (s ++ v) i ≡ at_broken_quote s i
    cut s [] i stop_end w = rw append-nil
    cut s (x ∷ t) i (stop_at y) w = broken_cut s t i w

-- the number of a refusal
pub missing_number : (s : List ℕ) (i : ℕ) → Number Second (missing_at s i)
unfolding missing_at
missing_number s i = go (at_broken_quote s i)
  where
    go : (b : Bool) → Number Second (if b then broken_quote else no_shape)
    go true = omega arith
    go false = omega arith

-- what the code says is missing is missing, whatever was to stand there
pub lack_is : (A : Type 0) (s : List ℕ) (i : ℕ) (r : (Refusal Reason)) → Lacking s i r → missing {A = A} s i ≡ refused (number r.reason) r.place
unfolding missing
lack_is A s i r h = rw (h.0, ← h.1)

-- a quote among bytes
pub quote_any : (s : List ℕ) → has_quote s ≡ list_any (λ y. eqb y 34) s
unfolding has_quote
quote_any [] = refl
quote_any (b ∷ s) = ap (λ r. eqb b 34 || r) (quote_any s)

-- a broken quote, from the bytes
module _ (s : List ℕ) (i : ℕ) where
  pub broken_two : get_or s i 0 ≡ 34 → get_or s (i + 1) 0 ≡ 34 → at_broken_quote s i ≡ true
  unfolding at_broken_quote
  broken_two e f = rw (← add-one i, e, f)

  -- (as a slice to the text's end is written)
  pub broken_one : get_or s i 0 ≡ 34 → (get_or s (i + 1) 0 ≡ 34 → ⊥) → at_broken_quote s i ≡ not (has_quote (take (length s - (i + 1)) (drop (i + 1) s)))
  unfolding at_broken_quote
  broken_one e f = rw (← add-one i, e, ne_eqb (get_or s (i + 1) 0) 34 f, take_all (length s - (i + 1)) (drop (i + 1) s) (omega (arith, length-drop (i + 1) s)))

  pub broken_no : (get_or s i 0 ≡ 34 → ⊥) → at_broken_quote s i ≡ false
  unfolding at_broken_quote
  broken_no e = rw (ne_eqb (get_or s i 0) 34 e)

pub ruleset broken = (broken_two, broken_one, broken_no)
