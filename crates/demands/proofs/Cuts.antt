-- The cut law: the rules of a text with a `;` outside quotes are those before it and those after it.
use Rattle.std.specs.Prelude.{None, Option, Some}
use Prim.Native.Nat.{ℕ, zero, suc, ◌+◌, ◌≤◌, ◌<◌}
use mathlib.Core.List.{List, [], ◌∷◌, ◌++◌}
use mathlib.Core.List as list
use mathlib.Core.Bool.{Bool, true, false}
use mathlib.Core.Path.{◌≡◌, refl, sym, ap, ◌∙◌}
use native.Mathlib.Omega.{arith}
use native.Mathlib.Decide.{dec_lt}
use native.Mathlib.Nat.{zero-add}
use lib.Dec.{eqb}
use lib.ListN.{length, get_or, length-append, get_or-append}
use lib.Seq.{get_or_at}
use borrow.Author.Tests.{eq-eqb, ne_eqb, lt-ltb}
use Rattle.names.specs.declared.Manner.{Manner}
use Rattle.names.specs.Read.{Read, got, none, refused, Reader, follow, branch, nothing, pure, map, when, one, at_end, ◌or◌, ◌>>◌}
use Rattle.names.specs.Chain.{before, last, chain}
use Rattle.names.specs.Texts.{byte}
use Rattle.names.proofs.Local.{Stop, stop_at, Side, At, Ends, Past, moved, keep, LocalIn, Local, next_at, stays}
use Rattle.names.proofs.Cut.{blanks_local}
use Rattle.items.specs.Musts.{missing_at, missing, must}
use Rattle.records.specs.Words.{Placed}
use Rattle.items.proofs.Quotes.{missing_alike}
use Rattle.items.proofs.Cut.{placed_moves}
use Rattle.rules.specs.Separators.{comma_blank, bars, separator, next}
use Rattle.rules.specs.Rules.{Rule}
use Rattle.rules.proofs.Cut.{start_moves, rule_moves, rule_local, comma_blank_local, bars_local}
use Rattle.text_rules.specs.Texts.{parted, more_rules, no_more, rules}
use Rattle.text_rules.proofs.Moves.{rules_are}

-- ---- two readings: before a `;`, and where the text ends instead

-- both found a value, of which P holds; or none; or the same refusal
data Cut {A : Type 0} (P : A → ℕ → A → ℕ → Type 0) : Read A → Read A → Type 0 where
  found : {a b : A} {j e : ℕ} → P a j b e → Cut P (got a j) (got b e)
  neither : Cut P none none
  both : {k p : ℕ} → Cut P (refused k p) (refused k p)

-- a value moved by 0
still : {A : Type 0} (sh : ℕ → A → A) → ((x : A) → sh 0 x ≡ x) → (x : Read A) → moved sh 0 x ≡ x
still sh h (got x j) = rw (h x, zero-add j)
still sh h none = refl
still sh h (refused k p) = rw (zero-add p)

module _ (s t : List ℕ) {B : Type 0} {P : B → ℕ → B → ℕ → Type 0} where
  -- what follows a reader that is local
  cut_then : {A : Type 0} {e : Manner} {sh : ℕ → A → A} {k : ℕ} {m : Reader A} {i : ℕ} (f : A → Reader B) → LocalIn e Stop sh [] false false k m m → ((x : A) → sh 0 x ≡ x) → Side false s i →
      ((a : A) (j : ℕ) → i + k ≤ j → Side false s j → Cut P (f a (s ++ 59 ∷ t) j) (f a s j)) → Cut P (branch m f nothing (s ++ 59 ∷ t) i) (branch m f nothing s i)
  cut_then {A} {sh = sh} {k} {m} {i} f M h w F =
      let e : m (s ++ 59 ∷ t) i ≡ m s i = ap (m (s ++ 59 ∷ t)) (sym (zero-add i)) ∙ M.same s (59 ∷ t) i (stop_at t) w ∙ still sh h (m s i) in
      rw e (go (m s i) (M.ends s (59 ∷ t) i (stop_at t) w))
    where
      go : (x : Read A) → Ends (λ j. Past k s i j × Side false s j) x → Cut P (follow (s ++ 59 ∷ t) i x f nothing) (follow s i x f nothing)
      go (got a j) p = F a j (omega (arith, p.0)) p.1
      go none p = neither
      go (refused e q) p = both

  -- one reading or another
  cut_or : (i : ℕ) (q : Reader B) {x y : Read B} → Cut P x y → Cut P (q (s ++ 59 ∷ t) i) (q s i) → Cut P (follow (s ++ 59 ∷ t) i x pure q) (follow s i y pure q)
  cut_or i q (found p) c = found p
  cut_or i q neither c = c
  cut_or i q both c = both

-- ---- what stands after a rule

-- the next rule is the same; or the text's end became the `;`, after which another rule stands
data Goes (s : List ℕ) (i : ℕ) : Option ℕ → ℕ → Option ℕ → ℕ → Type 0 where
  on : {n j : ℕ} → i ≤ j → Side false s j → Goes s i (Some n) j (Some n) j
  over : {j : ℕ} → i ≤ j → j ≡ length s → Goes s i (Some 0) (suc j) None j

module _ (s t : List ℕ) where
  -- a separator that begins with no `;`
  made_cut : {k i : ℕ} {m : Reader (Unit {0})} (n : ℕ) → Local Stop keep [] false false k m m → Side false s i →
      Cut (Goes s i) (branch m (λ _. pure (Some n)) nothing (s ++ 59 ∷ t) i) (branch m (λ _. pure (Some n)) nothing s i)
  made_cut n M w = cut_then s t _ M (λ _. refl) w (λ _ j h z. found (on (omega arith) z))

  -- the text's end, or what parts a rule from the next
  next_cut : (i : ℕ) → Side false s i → Cut (Goes s i) (next (s ++ 59 ∷ t) i) (next s i)
  unfolding next separator at_end byte one
  next_cut i w = go (dec_lt i (length s))
    where
      others : Reader (Option ℕ)
      others = (do comma_blank; pure (Some 1)) or (do bars; pure (Some 2))

      semicolon : i < length s → (b : Bool) → eqb 59 (get_or s i 0) ≡ b →
          Cut (Goes s i) (follow (s ++ 59 ∷ t) i (follow (s ++ 59 ∷ t) i (follow (s ++ 59 ∷ t) i (when b (got (get_or s i 0) (suc i))) (λ _. pure (tt {0})) nothing)
          (λ _. pure (Some 0)) nothing) pure others)
          (follow s i (follow s i (follow s i (when b (got (get_or s i 0) (suc i))) (λ _. pure (tt {0})) nothing) (λ _. pure (Some 0)) nothing) pure others)
      semicolon h true q = found (on {j = suc i} (omega arith) (next_at w h (stays (eqb 59) refl (get_or s i 0) false q)))
      semicolon h false q = cut_or s t i _ (made_cut 1 comma_blank_local w) (made_cut 2 bars_local w)

      go : Dec (i < length s) → Cut (Goes s i) (next (s ++ 59 ∷ t) i) (next s i)
      go (yes h) =
          let l : i < length (s ++ 59 ∷ t) = simp length-append (omega arith) in
          rw (
            ne_eqb i (length (s ++ 59 ∷ t)) (λ e. omega arith),
            ne_eqb i (length s) (λ e. omega arith),
            lt-ltb i (length (s ++ 59 ∷ t)) l,
            lt-ltb i
                (length s) h,
            get_or-append s (59 ∷ t) 0 i h,
          ) (semicolon h (eqb 59 (get_or s i 0)) refl)
      go (no h) =
          let e : i ≡ length s = omega (arith, w.fits) in
          let l : i < length (s ++ 59 ∷ t) = simp length-append (omega arith) in
          rw (ne_eqb i (length (s ++ 59 ∷ t)) (λ e. omega arith), eq-eqb i (length s) e, lt-ltb i (length (s ++ 59 ∷ t)) l, get_or_at s 59 t 0 i (sym e)) (found (over {j = i} (omega arith) e))

  -- nothing of its kind
  missing_cut : (i : ℕ) → Side false s i → Cut (Goes s i) (missing (s ++ 59 ∷ t) i) (missing s i)
  unfolding missing
  missing_cut i w = cut_then s t _ blanks_local (λ _. refl) w (λ _ j h z.
      let e : missing_at (s ++ 59 ∷ t) j ≡ missing_at s j = ap (missing_at (s ++ 59 ∷ t)) (sym (zero-add j)) ∙ missing_alike [] s (59 ∷ t) j (stop_at t) z in
      rw e both)

  -- what has to stand after a rule
  must_cut : (i : ℕ) → Side false s i → Cut (Goes s i) (must next (s ++ 59 ∷ t) i) (must next s i)
  must_cut i w = cut_or s t i _ (next_cut i w) (missing_cut i w)

-- ---- a rule of a text

-- a comment's start, and a rule, moved by 0
start_still : (l start : ℕ) → start_moves 0 l start ≡ start
start_still zero start = refl
start_still (suc l) start = zero-add start

items_still : (l : List Placed) → list.map (placed_moves 0) l ≡ l
items_still [] = refl
items_still (a ∷ l) = rw (zero-add a.1, items_still l)

rule_still : (r : Rule) → rule_moves 0 r ≡ r
rule_still r = rw (start_still r.0.comment.length r.0.comment.start, zero-add r.0.place, items_still r.1)

-- the same rule, of a byte at least, and what stands after it
abbrev Steps : List ℕ → ℕ → Rule × Option ℕ → ℕ → Rule × Option ℕ → ℕ → Type 0
Steps s i x j y e = (x.0 ≡ y.0) × Goes s (suc i) x.1 j y.1 e

module _ (m : Manner) (s t : List ℕ) where
  -- from an earlier place
  goes_from : {i j : ℕ} {x y : Option ℕ} {p q : ℕ} → i ≤ j → Goes s j x p y q → Goes s i x p y q
  goes_from h (on {j = p} l z) = on {j = p} (omega arith) z
  goes_from h (over {j = p} l e) = over {j = p} (omega arith) e

  -- what stands after a rule, beside that rule
  paired : {i j : ℕ} (r : Rule) {x y : Read (Option ℕ)} → suc i ≤ j → Cut (Goes s j) x y → Cut (Steps s i) (follow (s ++ 59 ∷ t) j x (λ n. pure (r, n)) nothing) (follow s j y (λ n. pure (r, n)) nothing)
  paired r h (found g) = found (refl, goes_from h g)
  paired r h neither = neither
  paired r h both = both

  -- a rule, and what parts it from the next
  parted_cut : (separator i : ℕ) → Side false s i → Cut (Steps s i) (parted m separator (s ++ 59 ∷ t) i) (parted m separator s i)
  unfolding parted
  parted_cut separator i w =
      cut_then s t _ (rule_local m separator) rule_still w (λ r j h z.
      cut_then s t _ blanks_local (λ _. refl) z (λ _ e g y. paired r (omega arith) (must_cut s t e y)))

  -- a step from an earlier place
  steps_from : {i j : ℕ} {x y : Read (Rule × Option ℕ)} → i ≤ j → Cut (Steps s j) x y → Cut (Steps s i) x y
  steps_from h (found p) = found (p.0, goes_from (omega arith) p.1)
  steps_from h neither = neither
  steps_from h both = both

  -- a rule of a text
  step_cut : (separator i : ℕ) → Side false s i → Cut (Steps s i) (more_rules m (Some separator) (s ++ 59 ∷ t) i) (more_rules m (Some separator) s i)
  unfolding more_rules
  step_cut separator i w = cut_then s t _ blanks_local (λ _. refl) w (λ _ j h z. steps_from (omega arith) (parted_cut separator j z))

-- ---- the rules of a text

-- rules, and those that follow
abbrev pub followed : List Rule → Read (List Rule × Unit {0}) → Read (List Rule × Unit {0})
followed l (got r j) = got (l ++ r.0, tt) j
followed l none = none
followed l (refused k p) = refused k p

-- where the first text is accepted, its rules and the second's; else its refusal
abbrev pub joined : Read (List Rule × Unit {0}) → Read (List Rule × Unit {0}) → Read (List Rule × Unit {0})
joined (got l j) y = followed l.0 y
joined none y = none
joined (refused k p) y = refused k p

module _ (m : Manner) (s t : List ℕ) where
  -- a rule in front
  front : (r : Rule) (j e : ℕ) (x y : Read (List Rule × Unit {0})) → follow (s ++ 59 ∷ t) e (joined x y) (λ l. pure (before r l)) nothing ≡ joined (follow s j x (λ l. pure (before r l)) nothing) y
  front r j e (got l i) (got l' i') = refl
  front r j e (got l i) none = refl
  front r j e (got l i) (refused k p) = refl
  front r j e none y = refl
  front r j e (refused k p) y = refl

  -- the last rule before the `;`
  alone : (r : Rule) (e : ℕ) (y : Read (List Rule × Unit {0})) → follow (s ++ 59 ∷ t) e y (λ l. pure (before r l)) nothing ≡ followed (r ∷ []) y
  alone r e (got l i) = refl
  alone r e none = refl
  alone r e (refused k p) = refl

  -- by the bytes that are left
  cut_from : (n separator i : ℕ) → Side false s i → length s < n + i →
      chain (more_rules m) no_more (Some separator) (s ++ 59 ∷ t) i ≡ joined (chain (more_rules m) no_more (Some separator) s i) (rules m (s ++ 59 ∷ t) (suc (length s)))
  unfolding no_more more_rules rules
  cut_from zero separator i w h = absurd (omega (arith, w.fits))
  cut_from (suc n) separator i w h =
      rw (rules_are m (Some separator) (s ++ 59 ∷ t) i, rules_are m (Some separator) s i) (go (λ q j z l. cut_from n q j z l) (step_cut m s t separator i w))
    where
      ends : ((q j : ℕ) → Side false s j → length s < n + j →
          chain (more_rules m) no_more (Some q) (s ++ 59 ∷ t) j ≡ joined (chain (more_rules m) no_more (Some q) s j) (rules m (s ++ 59 ∷ t) (suc (length s)))) →
          (r : Rule) {x y : Option ℕ} {j e : ℕ} → Goes s (suc i) x j y e →
          map (before r) (chain (more_rules m) no_more x) (s ++ 59 ∷ t) j ≡ joined (map (before r) (chain (more_rules m) no_more y) s e) (rules m (s ++ 59 ∷ t) (suc (length s)))
      ends ih r (on {n = q} {j} l z) = rw (ih q j z (omega arith)) (front r j j (chain (more_rules m) no_more (Some q) s j) (rules m (s ++ 59 ∷ t) (suc (length s))))
      ends ih r (over {j} l e) = rw (rules_are m None s j, e) (alone r (suc (length s)) (rules m (s ++ 59 ∷ t) (suc (length s))))

      go : ((q j : ℕ) → Side false s j → length s < n + j →
          chain (more_rules m) no_more (Some q) (s ++ 59 ∷ t) j ≡ joined (chain (more_rules m) no_more (Some q) s j) (rules m (s ++ 59 ∷ t) (suc (length s)))) →
          {x y : Read (Rule × Option ℕ)} → Cut (Steps s i) x y →
          follow (s ++ 59 ∷ t) i x (λ c. map (before c.0) (chain (more_rules m) no_more c.1)) (map last (no_more (Some separator)))
          ≡ joined (follow s i y (λ c. map (before c.0) (chain (more_rules m) no_more c.1)) (map last (no_more (Some separator)))) (rules m (s ++ 59 ∷ t) (suc (length s)))
      go ih (found {a = (r, x)} {b = (r', y)} {j} {e} p) = rw p.0 (ends ih r' p.1)
      go ih neither = refl
      go ih both = refl

  -- the cut law, from a place from which on the quotes before the `;` pair
  pub rules_cut : (i : ℕ) → At (59 ∷ t) false s i → rules m (s ++ 59 ∷ t) i ≡ joined (rules m s i) (rules m (s ++ 59 ∷ t) (suc (length s)))
  unfolding rules
  rules_cut i w = cut_from (suc (length s)) 0 i w (omega arith)
