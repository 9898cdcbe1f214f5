-- Laws that the code's own steps go by.
use Prim.Native.Nat.{ℕ, suc, ◌+◌, ◌≤◌, ◌<◌}
use mathlib.Core.Bool.{Bool, true, false, ◌&&◌}
use mathlib.Core.List.{List, [], ◌∷◌}
use mathlib.Core.Path.{◌≡◌, refl, sym, ap, ◌∙◌}
use native.Mathlib.Omega.{arith}
use native.Mathlib.Numerals.{add-one}
use native.Mathlib.Decide.{dec_lt}
use borrow.Author.Tests.{eq-eqb, ne_eqb, eqb-true, eqb-false}
use lib.Dec.{ltb, eqb}
use lib.ListN.{length, get_or}
use Rattle.names.specs.Read.{Read, got, none, refused, Reader, follow, branch, nothing, pure, refuse, when, one}
use Rattle.names.specs.Chain.{skip}
use Rattle.names.specs.Texts.{bytes, byte, all_of}
use Rattle.names.proofs.Local.{Ended, keep, Local, past, map_local}
use Rattle.names.proofs.Ended.{one_ended}
use Rattle.names.proofs.Chains.{many_local}
use Rattle.names.proofs.Laws.{one_got, one_other, one_past}
use Rattle.names.proofs.Skips.{skip_more, skip_stop, skip_end}
use Rattle.names.specs.Refusals.{ill_formed_comment}
use Rattle.utf8.specs.Letters.{is_inner}
use Rattle.rules.specs.Comments.{no_comment, ill_formed}
use Rattle.rules.specs.Comments as comments
use Rattle.rules.specs.Modifiers.{tail_of}
use Rattle.rules.specs.Rules.{wide_comment}
use Rattle.rules.specs.Pieces.{plain_end}
use Rattle.rules.specs.declared.Stage.{Stage}
use Rattle.rules.specs.declared.Stage.TheVariants.{Beginning, Always, Colon, After}

-- a test of two numbers, either way round
pub eqb_swap : (a b : ℕ) → eqb a b ≡ eqb b a
eqb_swap a b = go (eqb a b) refl
  where
    go : (t : Bool) → eqb a b ≡ t → eqb a b ≡ eqb b a
    go true e = e ∙ sym (eq-eqb b a (sym (eqb-true a b e)))
    go false e = e ∙ sym (ne_eqb b a (λ q. eqb-false a b e (sym q)))

-- ---- bytes that pass a test are skipped from i to j: the first of them, and those after it

-- where nothing stands after a text, they are read alike after another
pub skip_ended : {u : List ℕ} {a : Bool} (p : ℕ → Bool) → Local Ended keep u a a 0 (skip p) (skip p)
unfolding skip
skip_ended p = map_local _ _ (λ x. refl) (many_local (one_ended p))

-- one of them, and what is left to skip
pub skip_on : (p : ℕ → Bool) (s : List ℕ) (i : ℕ) → i < length s → p (get_or s i 0) ≡ true → skip p s i ≡ skip p s (i + 1)
skip_on p s i h e = skip_more p s i h e ∙ ap (skip p s) (sym (add-one i))

-- none of them, or one and then the others
data Skipped (p : ℕ → Bool) (s : List ℕ) (i j : ℕ) : Type 0 where
  stood : one p s i ≡ none → j ≡ i → Skipped p s i j
  went : one p s i ≡ got (get_or s i 0) (i + 1) → skip p s (i + 1) ≡ got tt j → i < j → Skipped p s i j

pub same_place : {i j : ℕ} → got (tt {0}) i ≡ got tt j → j ≡ i
same_place e = cc

module _ (p : ℕ → Bool) (s : List ℕ) (i j : ℕ) (e : skip p s i ≡ got tt j) where
  skipped : Skipped p s i j
  skipped = go (dec_lt i (length s)) (p (get_or s i 0)) refl
    where
      more : i < length s → p (get_or s i 0) ≡ true → Skipped p s i j
      more h t =
          let r : skip p s (i + 1) ≡ got tt j = ap (skip p s) (add-one i) ∙ sym (skip_more p s i h t) ∙ e in
          went (one_got p s i h t) r (omega (arith, past (skip_ended {a = false} p) r))

      go : Dec (i < length s) → (t : Bool) → p (get_or s i 0) ≡ t → Skipped p s i j
      go (yes h) true t = more h t
      go (yes h) false t = stood (one_other p s i h t) (same_place (sym (skip_stop p s i h t) ∙ e))
      go (no h) u t = stood (one_past p s i (omega arith)) (same_place (sym (skip_end p s i (omega arith)) ∙ e))

  -- the place moved: there is a first, and from after it the others
  pub skip_first : i < j → one p s i ≡ got (get_or s i 0) (i + 1)
  skip_first h = go skipped
    where
      go : Skipped p s i j → one p s i ≡ got (get_or s i 0) (i + 1)
      go (stood a q) = absurd (omega arith)
      go (went a b q) = a

  pub skip_others : i < j → skip p s (i + 1) ≡ got tt j
  skip_others h = go skipped
    where
      go : Skipped p s i j → skip p s (i + 1) ≡ got tt j
      go (stood a q) = absurd (omega arith)
      go (went a b q) = b

  -- it did not: there is none
  pub skip_none : j ≤ i → one p s i ≡ none
  skip_none h = go skipped
    where
      go : Skipped p s i j → one p s i ≡ none
      go (stood a q) = a
      go (went a b q) = absurd (omega arith)

-- ---- other bytes of a comment than characters, up to j

module _ (s : List ℕ) (place i j : ℕ) (e : skip is_inner s i ≡ got tt j) where
  -- none of them
  pub ill_formed_none : j ≤ i → ill_formed place s i ≡ none
  unfolding ill_formed
  ill_formed_none h = rw (skip_none is_inner s i j e h)

  -- some, and then the closing quote or none
  pub ill_formed_is : i < j → ill_formed place s i ≡ follow s j (byte 34 s j) (λ _. refuse ill_formed_comment place) nothing
  unfolding ill_formed
  ill_formed_is h = rw (skip_first is_inner s i j e h, skip_others is_inner s i j e h)

-- ---- bytes that stand as they are, one at a time
module _ (x : ℕ) (s : List ℕ) (i : ℕ) where
  -- the first, and then the others
  pub all_first : (xs : List ℕ) → all_of (λ b. b) (x ∷ xs) s i ≡ branch (byte x) (λ _. all_of (λ b. b) xs) nothing s i
  unfolding all_of byte one
  all_first xs = rw (eqb_swap (get_or s i 0) x) (go (ltb i (length s) && eqb x (get_or s i 0)))
    where
      go : (t : Bool) → follow s i (when t (got (get_or s i 0) (suc i))) (λ _. all_of (λ b. b) xs) nothing ≡ follow s i (follow s i (when t (got (get_or s i 0) (suc i)))
          (λ _. pure (tt {0})) nothing) (λ _. all_of (λ b. b) xs) nothing
      go true = refl
      go false = refl

  -- the last
  pub all_last : all_of (λ b. b) (x ∷ []) s i ≡ byte x s i
  unfolding all_of
  all_last = all_first [] ∙ go (byte x s i)
    where
      go : (r : Read (Unit {0})) → follow s i r (λ _. pure tt) nothing ≡ r
      go (got tt j) = refl
      go none = refl
      go (refused k p) = refl

-- after a reading, two readers that read alike from each place
then_alike : {A B : Type 0} (s : List ℕ) (i : ℕ) (r : Read A) (m n : Reader B) → ((j : ℕ) → m s j ≡ n s j) → follow s i r (λ _. m) nothing ≡ follow s i r (λ _. n) nothing
then_alike s i (got a j) m n h = h j
then_alike s i none m n h = refl
then_alike s i (refused k p) m n h = refl

-- `24/7`, a byte at a time
pub always_is : (s : List ℕ) (i : ℕ) → all_of (λ b. b) (bytes "24/7") s i ≡ branch (byte 50) (λ _. branch (byte 52) (λ _. branch (byte 47) (λ _. byte 55) nothing) nothing) nothing s i
always_is s i =
    all_first 50 s i (52 ∷ 47 ∷ 55 ∷ []) ∙ then_alike s i (byte 50 s i) _ _ (λ j. all_first 52 s j (47 ∷ 55 ∷ []) ∙ then_alike s j (byte 52 s j) _ _ (λ k.
    all_first 47 s k (55 ∷ []) ∙ then_alike s k (byte 47 s k) _ _ (λ l. all_last 55 s l)))

-- ---- answers, stages and kinds by their numbers

-- where no quote stands, no comment does
pub no_comment_lem : (s : List ℕ) (i : ℕ) → byte 34 s i ≡ none → comments.comment s i ≡ none
unfolding comments.comment
no_comment_lem s i e = rw (e)

-- nor does that of a wide part
pub no_wide_lem : (s : List ℕ) (i : ℕ) → byte 34 s i ≡ none → wide_comment s i ≡ none
unfolding wide_comment
no_wide_lem s i e = rw (no_comment_lem s i e)

-- without a modifier, a rule with selectors is open: at each stage but the first
pub open_end : (x : Stage) → (x ≡ Beginning → ⊥) → plain_end x ≡ pure (tail_of 0 no_comment false)
unfolding plain_end
open_end Beginning k = absurd (k refl)
open_end Always k = refl
open_end Colon k = refl
open_end (After x) k = refl
