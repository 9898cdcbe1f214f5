-- A comment that is read stands in its text: its start and its length are at most the text's length.
use Rattle.std.specs.Prelude.{if◌then◌else◌}
use Prim.Native.Nat.{ℕ, ◌≤◌}
use mathlib.Core.Bool.{Bool, true, false}
use mathlib.Core.List.{List}
use mathlib.Core.Path.{◌≡◌, subst}
use native.Mathlib.Omega.{arith}
use lib.Dec.{eqb}
use lib.ListN.{length}
use Rattle.names.specs.Read.{Read, got, follow, branch, nothing, pure, refuse, map, ◌or◌}
use Rattle.names.specs.Texts.{byte, bytes, blank, blanks, all_of}
use Rattle.names.specs.Spellings.{named}
use Rattle.names.specs.Names as names
use Rattle.items.specs.Musts.{missing}
use Rattle.items.specs.Kinds.{after_blank}
use Rattle.rules.specs.Separators.{rule_end}
use Rattle.rules.specs.Comments.{no_comment, comment, comment_apart}
use Rattle.rules.specs.Modifiers.{tail_of, with_comment, modifier}
use Rattle.rules.specs.Pieces.{empty, plain_end, end}
use Rattle.rules.specs.Rules.{opening_of, always, wide_comment, opening, wins}
use Rattle.records.specs.declared.Comment.{Comment}
use Rattle.rules.specs.declared.Opening.{Opening}
use Rattle.rules.specs.declared.Stage.{Stage}
use Rattle.rules.specs.declared.Stage.TheVariants.{Beginning, Always, Colon, After}
use Rattle.rules.specs.declared.Tail.{Tail}
use Rattle.rules.proofs.Cut.{Found, found_then, found_or, comment_has}

-- a comment's start and its length are at most n
abbrev pub Small : ℕ → Comment → Type 0
Small n c = (c.start ≤ n) × (c.length ≤ n)

-- and those of an end's comment, and of an opening's
abbrev pub SmallEnd : ℕ → Tail → Type 0
SmallEnd n t = Small n t.comment

abbrev SmallOpening : ℕ → Opening → Type 0
SmallOpening n o = Small n o.comment

-- no comment
no_small : (n : ℕ) → Small n no_comment
no_small n = (omega arith, omega arith)

-- a value that was found is so
found_is : {A : Type 0} (P : A → Type 0) (r : Read A) → Found P r → {a : A} {j : ℕ} → r ≡ got a j → P a
found_is P r h e = subst (Found P) e h

module _ (s : List ℕ) where
  -- what is read
  comment_small : (i : ℕ) → Found (Small (length s)) (comment s i)
  comment_small i = comment_has (Small (length s)) s (λ start end h k. (omega arith, omega arith)) i

  after_blank_small : (i : ℕ) → Found (Small (length s)) (comment_apart s i)
  unfolding comment_apart
  after_blank_small i = found_then _ s i _ (blank s i) (λ _ j _. comment_small j)

  with_small : (state : ℕ) (odd : Bool) (i : ℕ) → Found (SmallEnd (length s)) (with_comment state odd s i)
  unfolding with_comment
  with_small state odd i =
      let h = found_or (Small (length s)) s i (comment_apart s i) (pure no_comment) (after_blank_small i) (no_small (length s)) in
      found_then _ s i _ (follow s i (comment_apart s i) pure (pure no_comment)) (λ c j e. found_is (Small (length s)) _ h e)

  modifier_small : (i : ℕ) → Found (SmallEnd (length s)) (modifier s i)
  unfolding modifier
  modifier_small i =
      let named_small = found_then (SmallEnd (length s)) s i (λ w. with_comment w.0 w.1) (named names.modifier s i) (λ w j _. with_small w.0 w.1 j) in
      let bare_small = found_then (SmallEnd (length s)) s i (λ c. pure (tail_of 0 c false)) (comment s i) (λ c j e. found_is (Small (length s)) (comment s i) (comment_small i) e) in
      found_or (SmallEnd (length s)) s i (branch (named names.modifier) (λ w. with_comment w.0 w.1) nothing s i) (map (λ c. tail_of 0 c false) comment) named_small bare_small

  -- what is missing has no value
  missing_small : {A : Type 0} (P : A → Type 0) (i : ℕ) → Found P (missing s i)
  unfolding missing
  missing_small P i = found_then P s i _ (blanks s i) (λ _ j _. tt)

  -- nor has an empty rule
  empty_small : (P : Tail → Type 0) (i : ℕ) → Found P (empty s i)
  unfolding empty
  empty_small P i = found_then P s i (λ _. refuse 11 i) (rule_end s i) (λ _ j _. tt)

  -- a modifier after a blank, or none
  selected_small : (i : ℕ) → Found (SmallEnd (length s)) ((after_blank modifier or pure (tail_of 0 no_comment false)) s i)
  selected_small i =
      let apart-small = found_then (SmallEnd (length s)) s i (λ _. modifier) (blank s i) (λ _ j _. modifier_small j) in
      found_or (SmallEnd (length s)) s i (after_blank modifier s i) (pure (tail_of 0 no_comment false)) apart-small (no_small (length s))

  -- the comment of a rule's end
  pub end_small : (x : Stage) (i : ℕ) → Found (SmallEnd (length s)) (end x s i)
  unfolding end plain_end
  end_small Beginning i =
      let plain-small = found_or (SmallEnd (length s)) s i (empty s i) missing (empty_small (SmallEnd (length s)) i) (missing_small (SmallEnd (length s)) i) in
      found_or (SmallEnd (length s)) s i (modifier s i) (plain_end Beginning) (modifier_small i) plain-small
  end_small Always i = selected_small i
  end_small Colon i = selected_small i
  end_small (After k) i = selected_small i

  always_small : (i : ℕ) → Found (SmallOpening (length s)) (always s i)
  unfolding always
  always_small i = found_then _ s i _ (all_of (λ b. b) (bytes "24/7") s i) (λ _ _ _. no_small (length s))

  wide_small : (i : ℕ) → Found (SmallOpening (length s)) (wide_comment s i)
  unfolding wide_comment
  wide_small i = found_then _ s i _ (comment s i) (λ c j e. found_then _ s j _ (byte 58 s j) (λ _ _ _. found_is (Small (length s)) _ (comment_small i) e))

  -- the comment of a wide part
  pub opening_small : (i : ℕ) {o : Opening} {j : ℕ} → opening s i ≡ got o j → Small (length s) o.comment
  unfolding opening
  opening_small i e =
      let plain = pure (opening_of Beginning no_comment) in
      let not-always = found_or (SmallOpening (length s)) s i (wide_comment s i) plain (wide_small i) (no_small (length s)) in
      found_is (SmallOpening (length s)) _ (found_or (SmallOpening (length s)) s i (always s i) (branch wide_comment pure plain) (always_small i) not-always) e

-- the comment that wins
pub wins_small : (n : ℕ) (c wide : Comment) → Small n c → Small n wide → Small n (wins c wide)
unfolding wins
wins_small n c wide h k = go (eqb c.length 0)
  where
    go : (t : Bool) → Small n (if t then wide else c)
    go true = k
    go false = h
