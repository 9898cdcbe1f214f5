-- The pieces of a rule without fuel, a piece at a time, and that a rule has an opening and an end: what loops of the code go by.
use Prim.Native.Nat.{ℕ}
use mathlib.Core.List.{List, []}
use mathlib.Core.Logic.{◌⊎◌, inl, inr}
use mathlib.Core.Path.{◌≡◌, refl, ◌∙◌, subst}
use native.Mathlib.Omega.{arith}
use Rattle.names.specs.Read.{Read, got, none, refused, follow, branch, nothing, pure, map, Reader}
use Rattle.names.specs.Chain.{before, last, chain}
use Rattle.names.proofs.Local.{takes}
use Rattle.names.proofs.Fuel.{chain_is}
use Rattle.names.proofs.Skips.{map_map}
use Rattle.names.specs.declared.Manner.{Manner}
use Rattle.items.specs.Musts.{missing}
use Rattle.records.specs.Words.{Placed}
use Rattle.items.specs.Kinds.{after_blank}
use Rattle.items.proofs.Sure.{Sure, sure, then_sure, or_sure, missing_sure, chain_sure}
use Rattle.rules.specs.Comments.{no_comment}
use Rattle.rules.specs.Modifiers.{modifier}
use Rattle.rules.specs.Pieces.{empty, more, plain_end, end, piece}
use Rattle.rules.specs.Rules.{opening_of, always, wide_comment, opening, rule_of, after_opening, rule}
use Rattle.rules.specs.declared.Opening.{Opening}
use Rattle.rules.specs.declared.Tail.{Tail}
use Rattle.rules.specs.declared.Stage.{Stage}
use Rattle.rules.specs.declared.Stage.TheVariants.{Beginning, Always, Colon, After}
use Rattle.rules.proofs.Cut.{more_local}

-- ---- pieces

-- the pieces of a rule are a piece and those from there, or an end
pub pieces_are : (m : Manner) (x : Stage) (s : List ℕ) (i : ℕ) → chain (more m) end x s i ≡ branch (more m x) (λ c. map (before c.0) (chain (more m) end c.1)) (map last (end x)) s i
pieces_are m = chain_is (more m) end (λ x. takes (more_local {u = []} m x))

-- what the pieces come to, whatever it is: by a piece more, by a refusal, or by the end
module _ {A : Type 0} (m : Manner) (f : List Placed × Tail → A) (x : Stage) (s : List ℕ) (i : ℕ) where
  pub piece_more : {a : Placed} {y : Stage} {j : ℕ} → more m x s i ≡ got (a, y) j → map f (chain (more m) end x) s i ≡ map (λ r. f (before a r)) (chain (more m) end y) s j
  piece_more {a} {y} {j} e = rw (pieces_are m x s i, e) (map_map (before a) f s i j (chain (more m) end y s j))

  pub piece_refused : {k p : ℕ} → more m x s i ≡ refused k p → map f (chain (more m) end x) s i ≡ refused k p
  piece_refused e = rw (pieces_are m x s i, e)

  pub piece_end : more m x s i ≡ none → map f (chain (more m) end x) s i ≡ map (λ t. f (last t)) (end x) s i
  piece_end e = rw (pieces_are m x s i, e) (map_map last f s i i (end x s i))

-- ---- what a piece is

abbrev Piece : Type 0
Piece = (Placed × Stage) ⊎ Tail

module _ (m : Manner) (x : Stage) (s : List ℕ) (i : ℕ) where
  -- what a rule's end comes to
  abbrev ends : Read Tail → Read Piece
  ends t = follow s i t (λ b. pure (inr b)) nothing

  -- an item
  pub piece_item : {a : Placed × Stage} {j : ℕ} → piece m x s i ≡ got (inl a) j → more m x s i ≡ got a j
  unfolding piece
  piece_item {a} {j} e = go (more m x s i) e
    where
      ended : (t : Read Tail) → ends t ≡ got (inl a) j → none ≡ got a j
      ended (got b k) e = cc
      ended none e = cc
      ended (refused k p) e = cc

      go : (r : Read (Placed × Stage)) → follow s i r (λ b. pure (inl b)) (map inr (end x)) ≡ got (inl a) j → r ≡ got a j
      go (got b k) e = let h : k ≡ j = cc in let q : b ≡ a = cc in rw (h, q)
      go none e = ended (end x s i) e
      go (refused k p) e = cc

  -- the rule's end: no item
  pub piece_none : {t : Tail} {j : ℕ} → piece m x s i ≡ got (inr t) j → more m x s i ≡ none
  unfolding piece
  piece_none {t} {j} e = go (more m x s i) e
    where
      go : (r : Read (Placed × Stage)) → follow s i r (λ b. pure (inl b)) (map inr (end x)) ≡ got (inr t) j → r ≡ none
      go (got b k) e = cc
      go none e = refl
      go (refused k p) e = cc

  pub piece_tail : {t : Tail} {j : ℕ} → piece m x s i ≡ got (inr t) j → end x s i ≡ got t j
  unfolding piece
  piece_tail {t} {j} e = go (end x s i) (subst (λ (r : Read (Placed × Stage)). follow s i r (λ b. pure (inl b)) (map inr (end x)) ≡ got (inr t) j) (piece_none e) e)
    where
      go : (r : Read Tail) → ends r ≡ got (inr t) j → r ≡ got t j
      go (got b k) e = let h : k ≡ j = cc in let q : b ≡ t = cc in rw (h, q)
      go none e = cc
      go (refused k p) e = cc

  -- a refusal: what is left of the rule is refused
  pub piece_refusal : {A : Type 0} (f : List Placed × Tail → A) {k p : ℕ} → piece m x s i ≡ refused k p → map f (chain (more m) end x) s i ≡ refused k p
  unfolding piece
  piece_refusal {A} f {k} {p} e = go (more m x s i) refl e
    where
      again : (l r : ℕ) → ◌≡◌ {A = Read Piece} (refused l r) (refused k p) → ◌≡◌ {A = Read A} (refused l r) (refused k p)
      again l r e = let h : l ≡ k = cc in let q : r ≡ p = cc in rw (h, q)

      ended : (t : Read Tail) → ends t ≡ refused k p → follow s i t (λ b. pure (f (last b))) nothing ≡ refused k p
      ended (got b l) e = absurd (let z : ◌≡◌ {A = ℕ} 0 1 = cc in omega arith)
      ended none e = absurd (let z : ◌≡◌ {A = ℕ} 0 1 = cc in omega arith)
      ended (refused l r) e = again l r e

      go : (r : Read (Placed × Stage)) → more m x s i ≡ r → follow {B = Piece} s i r (λ b. pure (inl b)) (map inr (end x)) ≡ refused k p → map f (chain (more m) end x) s i ≡ refused k p
      go (got b l) h e = absurd (let z : ◌≡◌ {A = ℕ} 0 1 = cc in omega arith)
      go none h e = piece_end m f x s i h ∙ ended (end x s i) e
      go (refused l r) h e = piece_refused m f x s i h ∙ again l r e

-- ---- what is always there, or refused

-- a rule has an end
ended : (s : List ℕ) (i : ℕ) (x : Stage) → Sure (end x s i)
unfolding end plain_end
ended s i Beginning = or_sure s i (modifier s i) (plain_end Beginning) (or_sure s i (empty s i) missing (missing_sure Tail s i))
ended s i Always = or_sure s i (after_blank modifier s i) (plain_end Always) tt
ended s i Colon = or_sure s i (after_blank modifier s i) (plain_end Colon) tt
ended s i (After k) = or_sure s i (after_blank modifier s i) (plain_end (After k)) tt

pub end_sure : (x : Stage) (s : List ℕ) (i : ℕ) → end x s i ≡ none → ⊥
end_sure x s i = sure (ended s i x)

-- and is read or refused
pub rule_sure : (m : Manner) (separator : ℕ) (s : List ℕ) (i : ℕ) → Sure (rule m separator s i)
unfolding rule opening after_opening
rule_sure m separator s i =
    let plain : Reader Opening = pure (opening_of Beginning no_comment) in
    then_sure s i (after_opening m i separator) (opening s i) (or_sure s i (always s i) (branch wide_comment pure plain) (or_sure s i (wide_comment s i) plain tt)) (λ o j.
    then_sure s j (λ r. pure (rule_of i separator o.comment r)) (chain (more m) end o.stage s j) (chain_sure (more m) end s (λ x. takes (more_local {u = []} m x) s)
    (λ x k _. ended s k x) o.stage j) (λ _ _. tt))
