-- Reading a comment is reading what stands between quotes, and judging its bytes.
use Prim.Native.Nat.{ℕ, ◌+◌, ◌-◌, ◌≤◌, ◌<◌}
use mathlib.Core.Bool.{Bool, true, false}
use mathlib.Core.List.{List}
use mathlib.Core.Logic.{◌⊎◌, inl, inr}
use mathlib.Core.Path.{◌≡◌, refl, sym, ap, ◌∙◌}
use native.Mathlib.Omega.{arith}
use native.Mathlib.Decide.{dec_lt}
use borrow.Author.Tests.{lt-ltb, le-ltb, eqb-true}
use lib.Dec.{eqb}
use lib.ListN.{get_or}
use lib.Seq.{slice}
use Rattle.names.specs.Read.{Read, got, none, refused, follow, branch, nothing, pure, refuse, here, one, ◌>>=◌, ◌>>◌}
use Rattle.names.specs.Chain.{skip}
use Rattle.names.specs.Texts.{byte}
use Rattle.names.specs.Refusals.{ill_formed_comment}
use Rattle.names.proofs.Local.{past}
use Rattle.names.proofs.Laws.{one_is}
use Rattle.names.proofs.Skips.{skip_sure}
use Rattle.utf8.specs.CodePoints.{WellFormed}
use Rattle.utf8.specs.Letters.{is_inner, letters}
use Rattle.utf8.proofs.Inner.{letters_sure, letters_past, letters_inner}
use Rattle.utf8.proofs.Between.{letters_are_well_formed}
use Rattle.rules.specs.Comments.{comment_of, closed, ill_formed, comment}
use Rattle.rules.specs.Judged.{quoted, bytes_of, CommentsAreJudged}
use Rattle.records.specs.declared.Comment.{Comment}
use Rattle.rules.proofs.Laws.{same_place, skip_ended, skip_first, skip_others, skip_none}

-- a reading q of quoted bytes at i, and what r makes of it
abbrev Judges : List ℕ → ℕ → Read Comment → Read Comment → Type 0
Judges s i q r = (q ≡ none → r ≡ none) × ((c : Comment) (j : ℕ) → q ≡ got c j → (WellFormed (bytes_of c s) → r ≡ got c j) × ((WellFormed (bytes_of c s) → ⊥) → r ≡ refused ill_formed_comment i))

module _ (s : List ℕ) (i : ℕ) where
  judges_none : {r : Read Comment} → r ≡ none → Judges s i none r
  judges_none h = (λ _. h, λ c j e. absurd (let z : ◌≡◌ {A = ℕ} 0 1 = cc in omega arith))

  judges_got : {r : Read Comment} (c : Comment) (j : ℕ) → (WellFormed (bytes_of c s) → r ≡ got c j) → ((WellFormed (bytes_of c s) → ⊥) → r ≡ refused ill_formed_comment i) → Judges s i (got c j) r
  judges_got c j h k = (λ e. absurd (let z : ◌≡◌ {A = ℕ} 0 1 = cc in omega arith), λ d l e. let a : c ≡ d = cc in let b : j ≡ l = cc in rw (← a, ← b) (h, k))

  -- a quote stands at i, or none
  quote_or_not : (byte 34 s i ≡ got tt (i + 1)) ⊎ (byte 34 s i ≡ none)
  unfolding byte
  quote_or_not = go (eqb 34 (get_or s i 0)) refl
    where
      go : (t : Bool) → eqb 34 (get_or s i 0) ≡ t → (byte 34 s i ≡ got tt (i + 1)) ⊎ (byte 34 s i ≡ none)
      go true q = inl (rw (one_is (eqb 34) refl s i refl q))
      go false q = inr (rw (one_is (eqb 34) refl s i refl q))

  -- a byte of a comment is no quote
  inner_quote : {b k : ℕ} → one is_inner s i ≡ got b k → byte 34 s i ≡ none
  unfolding byte is_inner
  inner_quote {b} {k} e = go (eqb 34 (get_or s i 0)) refl
    where
      go : (t : Bool) → eqb 34 (get_or s i 0) ≡ t → byte 34 s i ≡ none
      go true q = let z : none ≡ got b k = sym (one_is is_inner refl s i (eqb-true 34 (get_or s i 0) q) refl) ∙ e in absurd (let y : ◌≡◌ {A = ℕ} 0 1 = cc in omega arith)
      go false q = rw (one_is (eqb 34) refl s i refl q)

  -- the closing quote after characters, one at least, or none
  closed_empty : (start : ℕ) → i ≤ start → closed start s i ≡ none
  unfolding closed
  closed_empty start h = go quote_or_not
    where
      go : (byte 34 s i ≡ got tt (i + 1)) ⊎ (byte 34 s i ≡ none) → closed start s i ≡ none
      go (inl q) = rw (q, le-ltb start i h)
      go (inr q) = rw q

  closed_none : (start : ℕ) → byte 34 s i ≡ none → closed start s i ≡ none
  unfolding closed
  closed_none start q = rw q

  closed_got : (start : ℕ) → start < i → byte 34 s i ≡ got tt (i + 1) → closed start s i ≡ got (comment_of start (i - start)) (i + 1)
  unfolding closed
  closed_got start h q = rw (q, lt-ltb start i h)

-- a difference added again
add_sub : (i j : ℕ) → i ≤ j → i + (j - i) ≡ j
add_sub i j h = omega arith

-- after the first quote, at i: from start on, characters up to e and bytes of a comment up to k
module _ (s : List ℕ) (i start e k : ℕ) (l : letters s start ≡ got tt e) (f : skip is_inner s start ≡ got tt k) where
  -- what a comment comes to, and what its bytes do
  abbrev rest : Read Comment
  rest = branch (closed start) pure (ill_formed i) s e

  abbrev between : Read Comment
  between = (do one is_inner; skip is_inner; end ← here; byte 34; pure (comment_of start (end - start))) s start

  -- characters end where the bytes do, or before
  later : skip is_inner s e ≡ got tt k
  later = letters_inner s start e l f

  order : (start ≤ e) × (e ≤ k)
  order = (omega (arith, (letters_past s start e l).moves), omega (arith, (past (skip_ended {a = true} is_inner) later).moves))

  -- no bytes
  empty_judged : k ≤ start → Judges s i between rest
  unfolding ill_formed
  empty_judged h =
      let q : e ≡ start = omega (arith, order) in
      rw (skip_none is_inner s start k f h) (judges_none s i (rw (closed_empty s e start (omega arith), q, skip_none is_inner s start k f h)))

  -- bytes of a comment up to k, all of them characters
  good_judged : start < k → e ≡ k → Judges s i between rest
  unfolding ill_formed
  good_judged h q = rw (skip_first is_inner s start k f h, skip_others is_inner s start k f h, q) (go (quote_or_not s k))
    where
      go : (byte 34 s k ≡ got tt (k + 1)) ⊎ (byte 34 s k ≡ none) →
          Judges s i (follow s k (byte 34 s k) (λ _. pure (comment_of start (k - start))) nothing) (branch (closed start) pure (ill_formed i) s k)
      go (inl c) =
          let w : WellFormed (slice start (start + (k - start)) s) = rw (add_sub start k (omega arith)) ((letters_are_well_formed s start k f).0 (l ∙ ap (λ (n : ℕ). got tt n) q)) in
          rw c (judges_got s i (comment_of start (k - start)) (k + 1) (λ _. rw (closed_got s k start h c)) (λ n. absurd (n w)))
      go (inr c) = rw c (judges_none s i (rw (closed_none s k start c, skip_none is_inner s k k (rw q at later) (omega arith))))

  -- or not all
  ill_judged : start < k → e < k → Judges s i between rest
  unfolding ill_formed
  ill_judged h p =
      let o = skip_first is_inner s e k later p in
      rw (skip_first is_inner s start k f h, skip_others is_inner s start k f h, closed_none s e start (inner_quote s e o), o, skip_others is_inner s e k later p) (go (quote_or_not s k))
    where
      go : (byte 34 s k ≡ got tt (k + 1)) ⊎ (byte 34 s k ≡ none) →
          Judges s i (follow s k (byte 34 s k) (λ _. pure (comment_of start (k - start))) nothing) (follow s k (byte 34 s k) (λ _. refuse ill_formed_comment i) nothing)
      go (inl c) =
          rw c (judges_got s i (comment_of start (k - start)) (k + 1) (λ w.
          let z : e ≡ k = same_place (sym ((letters_are_well_formed s start k f).1 (rw (add_sub start k (omega arith)) at w)) ∙ l) in absurd (omega arith)) (λ _. refl))
      go (inr c) = rw c (judges_none s i refl)

  rest_judged : Judges s i between rest
  rest_judged = go (dec_lt start k) (dec_lt e k)
    where
      go : Dec (start < k) → Dec (e < k) → Judges s i between rest
      go (no h) d = empty_judged (omega arith)
      go (yes h) (no p) = good_judged h (omega (arith, order))
      go (yes h) (yes p) = ill_judged h p

pub comments_are_judged : CommentsAreJudged
unfolding quoted comment
comments_are_judged s i = go (quote_or_not s i)
  where
    go : (byte 34 s i ≡ got tt (i + 1)) ⊎ (byte 34 s i ≡ none) → Judges s i (quoted s i) (comment s i)
    go (inl q) = let l = letters_sure s (i + 1) in let f = skip_sure is_inner s (i + 1) in rw (q, l.1) (rest_judged s i (i + 1) l.0 f.0 l.1 f.1)
    go (inr q) = rw q (judges_none s i refl)
