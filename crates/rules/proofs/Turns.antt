-- A piece of a rule, by what stands where the rule goes on.
use Rattle.std.specs.Prelude.{Option, Some, None}
use Prim.Native.Nat.{ℕ, ◌<◌, ◌≤◌}
use mathlib.Core.Bool.{Bool, true, false, ◌||◌}
use mathlib.Core.List.{List, []}
use mathlib.Core.Logic.{◌⊎◌, inl, inr}
use mathlib.Core.Path.{◌≡◌, refl, ap, ◌∙◌}
use native.Mathlib.Omega.{arith}
use borrow.Author.Tests.{ne_eqb}
use lib.Dec.{eqb}
use lib.ListN.{length, get_or}
use Rattle.names.specs.Read.{Read, got, none, refused, Reader, follow, branch, nothing, pure, refuse, map, only, at_end, ◌or◌}
use Rattle.names.specs.Texts.{byte, blank, comma}
use Rattle.names.specs.Names.{word}
use Rattle.names.specs.Spellings.{odd}
use Rattle.names.specs.Refusals.{empty_rule}
use Rattle.names.specs.Names as names
use Rattle.names.proofs.Laws.{one_is, either}
use Rattle.names.proofs.Local.{past_one}
use Rattle.names.proofs.NameCut.{word_local}
use Rattle.names.proofs.Search.{word_letter}
use Rattle.names.proofs.Odd.{named_got, named_none}
use Rattle.names.specs.declared.Manner.{Manner}
use Rattle.items.specs.Musts.{missing, must}
use Rattle.records.specs.Words.{Placed}
use Rattle.items.specs.Kinds.{after_blank, item_in}
use Rattle.items.specs.declared.Kind.{Kind}
use Rattle.items.proofs.Sure.{Sure, sure_then, sure_or, must_sure, missing_apart}
use Rattle.items.proofs.Standing.{name_is, name_other, name_none}
use Rattle.rules.specs.Comments.{no_comment, comment, comment_apart}
use Rattle.rules.specs.Modifiers.{tail_of, with_comment, modifier}
use Rattle.rules.specs.Rows.{small, first, listed, following}
use Rattle.rules.specs.Pieces.{empty, item_from, goes_on, after_colon, colon_sign, colon, more, plain_end, end, piece}
use Rattle.items.specs.Sets.{kinds_of}
use Rattle.rules.specs.Seen.{turned}
use Rattle.rules.specs.declared.Turn.{Turn}
use Rattle.rules.specs.Separators.{comma_blank, bars, separator, next, stop, rule_end}
use Rattle.records.specs.declared.Comment.{Comment}
use Rattle.rules.specs.declared.Tail.{Tail}
use Rattle.rules.specs.declared.Stage.{Stage}
use Rattle.rules.specs.declared.Stage.TheVariants.{Beginning, Always, Colon, After}

-- a name takes bytes of the text
pub word_takes : (s : List ℕ) (i : ℕ) {v : names.Word} {j : ℕ} → word s i ≡ got v j → (i < j) × (j ≤ length s)
word_takes s i e = past_one word_local e

-- after a modifier's word there is always an end
with_comment_sure : (s : List ℕ) (v : ℕ) (odd : Bool) (l : ℕ) → Sure (with_comment v odd s l)
unfolding with_comment
with_comment_sure s v odd l = go (comment_apart s l)
  where
    go : (r : Read Comment) → Sure (follow s l (follow s l r pure (pure no_comment)) (λ c. pure (tail_of v c odd)) nothing)
    go (got c k) = tt
    go none = tt
    go (refused k p) = tt

-- what a piece is
abbrev Piece : Type 0
Piece = (Placed × Stage) ⊎ Tail

abbrev items : Placed × Stage → Reader Piece
items a = pure (inl a)

abbrev ends : Tail → Reader Piece
ends t = pure (inr t)

module _ (m : Manner) (s : List ℕ) (i : ℕ) where
  -- an end that is read in two ways, or a plain one
  or_ends : (r : Read Tail) (n : Reader Tail) → follow s i (follow s i r pure n) ends nothing ≡ follow s i r ends (map inr n)
  or_ends (got t j) n = refl
  or_ends none n = refl
  or_ends (refused k p) n = refl

  -- ---- at the beginning

  pub first_piece : piece m Beginning s i ≡ branch (item_from m first) items (branch modifier ends (λ s _. map inr (plain_end Beginning) s i)) s i
  unfolding piece more end
  first_piece = go (item_from m first s i)
    where
      go : (r : Read (Placed × Stage)) → follow s i r items (map inr (modifier or plain_end Beginning)) ≡ follow s i r items (branch modifier ends (λ s _. map inr (plain_end Beginning) s i))
      go (got a j) = refl
      go none = last (modifier s i)
        where
          last : (r : Read Tail) → follow s i (follow s i r pure (plain_end Beginning)) ends nothing ≡ follow s i r ends (λ s _. map inr (plain_end Beginning) s i)
          last (got t j) = refl
          last none = refl
          last (refused k p) = refl
      go (refused k p) = refl

  -- ---- after a colon

  -- a blank, and then the item that has to stand there
  pub colon_blank : {j : ℕ} → blank s i ≡ got tt j → map inl (after_colon m) s i ≡ map {B = Piece} inl (must (item_from m small)) s j
  colon_blank {j} e = rw e (go (item_from m small s j))
    where
      go : (r : Read (Placed × Stage)) → follow s i (follow s i r pure missing) items nothing ≡ follow s j (follow s j r pure missing) items nothing
      go (got a k) = refl
      go none = rw (missing_apart (Placed × Stage) s i e) (again (missing s j))
        where
          again : (r : Read (Placed × Stage)) → follow s i r items nothing ≡ follow s j r items nothing
          again (got a k) = refl
          again none = refl
          again (refused k p) = refl
      go (refused k p) = refl

  -- no blank: nothing of any kind
  pub colon_bare : blank s i ≡ none → map inl (after_colon m) s i ≡ map {B = Piece} inl (must (item_from m [])) s i
  unfolding item_in
  colon_bare e = rw e

  -- ---- after selectors, where neither a comma nor a colon goes on

  module _ (ks : List Kind) (x : Stage) where
    abbrev piece_after_blank : Read Piece
    piece_after_blank = branch (after_blank (item_from m ks)) items (branch (after_blank modifier) ends (map inr (plain_end x))) s i

    pub blank_on : {j : ℕ} → blank s i ≡ got tt j → piece_after_blank ≡ branch (item_from m ks) items (branch modifier ends (λ s _. map inr (plain_end x) s i)) s j
    blank_on {j} e = rw e (go (item_from m ks s j))
      where
        end' : (r : Read Tail) → follow s i r ends (map inr (plain_end x)) ≡ follow s j r ends (λ s _. map inr (plain_end x) s i)
        end' (got t k) = refl
        end' none = refl
        end' (refused k p) = refl

        go : (r : Read (Placed × Stage)) → follow s i r items (branch (after_blank modifier) ends (map inr (plain_end x))) ≡ follow s j r items (branch modifier ends (λ s _. map inr (plain_end x) s i))
        go (got a k) = refl
        go none = rw e (end' (modifier s j))
        go (refused k p) = refl

    pub blank_off : blank s i ≡ none → piece_after_blank ≡ map inr (plain_end x) s i
    blank_off e = rw e (rw e)

  -- `24/7`
  pub always_piece : piece m Always s i ≡ branch (after_blank (item_from m [])) items (branch (after_blank modifier) ends (map inr (plain_end Always))) s i
  unfolding piece more end item_in
  always_piece = go (blank s i) refl
    where
      go : (r : Read (Unit {0})) → blank s i ≡ r →
          map inr (end Always) s i ≡ follow s i (follow s i r (λ _. item_from m []) nothing) items (branch (after_blank modifier) ends (map inr (plain_end Always)))
      go (got tt j) e = or_ends (after_blank modifier s i) (plain_end Always)
      go none e = or_ends (after_blank modifier s i) (plain_end Always)
      go (refused k p) e = rw e

  -- the comment of a wide part, and its colon
  pub colon_piece : piece m Colon s i ≡ map inl (after_colon m) s i
  unfolding piece more
  colon_piece = sure_then s i i inl (after_colon m s i) (map inr (end Colon)) (must_sure s i (after_blank (item_from m small)))

  -- ---- after an item

  module _ (k : Kind) where
    pub comma_piece : {j : ℕ} → comma s i ≡ got tt j → piece m (After k) s i ≡ map inl (must (item_from m (listed k))) s j
    unfolding piece more goes_on
    comma_piece {j} e =
        let n = must (item_from m (listed k)) in
        let sure = must_sure s j (item_from m (listed k)) in
        let no_other = sure_or s i (n s j) (colon m k or after_blank (item_from m (following k))) sure in
        let no_end = sure_then s i j inl (n s j) (map inr (end (After k))) sure in
        rw e (ap (λ (r : Read (Placed × Stage)). follow s i r items (map inr (end (After k)))) no_other ∙ no_end)

    pub wide_piece : {j : ℕ} → comma s i ≡ none → colon_sign k s i ≡ got tt j → piece m (After k) s i ≡ map inl (after_colon m) s j
    unfolding piece more goes_on colon
    wide_piece {j} c e =
        let sure = must_sure s j (after_blank (item_from m small)) in
        let no_other = sure_or s i (after_colon m s j) (after_blank (item_from m (following k))) sure in
        let no_end = sure_then s i j inl (after_colon m s j) (map inr (end (After k))) sure in
        rw (c, e) (ap (λ (r : Read (Placed × Stage)). follow s i r items (map inr (end (After k)))) no_other ∙ no_end)

    -- neither a comma nor a colon
    after_end : map inr (end (After k)) s i ≡ branch (after_blank modifier) ends (map inr (plain_end (After k))) s i
    unfolding end
    after_end = or_ends (after_blank modifier s i) (plain_end (After k))

    after_blank_lem : (r : Read (Placed × Stage)) → follow s i r items (map inr (end (After k))) ≡ follow s i r items (branch (after_blank modifier) ends (map inr (plain_end (After k))))
    after_blank_lem (got a j) = refl
    after_blank_lem none = after_end
    after_blank_lem (refused n p) = refl

    pub bare_piece : comma s i ≡ none → colon_sign k s i ≡ none →
        piece m (After k) s i ≡ branch (after_blank (item_from m (following k))) items (branch (after_blank modifier) ends (map inr (plain_end (After k)))) s i
    unfolding piece more goes_on colon
    bare_piece c e = rw (c, e) (after_blank_lem (after_blank (item_from m (following k)) s i))

-- ---- from the look at the place j where the rule goes on

module _ (m : Manner) (s : List ℕ) (j : ℕ) (ks : List Kind) where
  -- an item that has to stand there
  abbrev has : Read Piece
  has = map inl (must (item_from m ks)) s j

  pub has_item : {a : Placed} {k : Kind} {l : ℕ} → item_in m ks s j ≡ got (a, k) l → has ≡ got (inl (a, After k)) l
  has_item e = rw e

  pub has_refused : {n p : ℕ} → item_in m ks s j ≡ refused n p → has ≡ refused n p
  has_refused e = rw e

  pub has_none : item_in m ks s j ≡ none → has ≡ map inl missing s j
  has_none e = rw e

  -- or may
  module _ (x : Stage) (i : ℕ) where
    abbrev may : Read Piece
    may = branch (item_from m ks) items (branch modifier ends (λ s _. map inr (plain_end x) s i)) s j

    pub may_item : {a : Placed} {k : Kind} {l : ℕ} → item_in m ks s j ≡ got (a, k) l → may ≡ got (inl (a, After k)) l
    may_item e = rw e

    pub may_refused : {n p : ℕ} → item_in m ks s j ≡ refused n p → may ≡ refused n p
    may_refused e = rw e

    -- a modifier's name
    pub may_modifier : {n v l : ℕ} → item_in m ks s j ≡ none → word s j ≡ got (n, v) l → n ≡ names.modifier → may ≡ map inr (with_comment v (odd names.modifier s j l)) s l
    unfolding modifier
    may_modifier {n} {v} {l} e w q =
        let o = odd names.modifier s j l in rw (e, named_got s j names.modifier (name_is s j names.modifier w q)) (go (with_comment v o s l) (with_comment_sure s v o l))
      where
        go : (r : Read Tail) → Sure r → follow s j (follow s j r pure (map (λ c. tail_of 0 c false) comment)) ends (λ s _. map inr (plain_end x) s i) ≡ follow s l r ends nothing
        go (got t q) h = refl
        go none h = absurd h
        go (refused q p) h = refl

    -- another name: no comment stands there
    pub may_other : {n v l : ℕ} → item_in m ks s j ≡ none → word s j ≡ got (n, v) l → (n ≡ names.modifier → ⊥) → may ≡ map inr (plain_end x) s i
    unfolding modifier comment byte
    may_other {n} {v} {l} e w q =
        rw (e, named_none s j names.modifier (name_other s j names.modifier w q), one_is (eqb 34) refl s j refl (ne_eqb 34 (get_or s j 0) (λ q. omega (arith, word_letter s j w))))

    -- no name
    pub may_unnamed : item_in m ks s j ≡ none → word s j ≡ none → may ≡ branch comment (λ m. pure (inr (tail_of 0 m false))) (λ s _. map inr (plain_end x) s i) s j
    unfolding modifier
    may_unnamed e w = rw (e, named_none s j names.modifier (name_none s j names.modifier w)) (go (comment s j))
      where
        go : (r : Read Comment) → follow s j (follow s j r (λ c. pure (tail_of 0 c false)) nothing) ends (λ s _. map inr (plain_end x) s i) ≡ follow s j r (λ m. pure (inr
            (tail_of 0 m false))) (λ s _. map inr (plain_end x) s i)
        go (got c q) = refl
        go none = refl
        go (refused q p) = refl

-- ---- the same of a turn

module _ (m : Manner) (s : List ℕ) (x : Stage) (i : ℕ) (t : Turn) where
  -- what stands where the rule goes on
  abbrev next_item : Read (Placed × Kind)
  next_item = item_in m (kinds_of t.wanted.bits) s t.at.at

  -- what the piece is, where an item has to stand there and where it may
  abbrev must_be : Read Piece
  must_be = has m s t.at.at (kinds_of t.wanted.bits)

  abbrev may_be : Read Piece
  may_be = may m s t.at.at (kinds_of t.wanted.bits) x i

  pub turned_item : {a : Placed} {k : Kind} {l : ℕ} → next_item ≡ got (a, k) l → turned m s x i (Some t) ≡ got (inl (a, After k)) l
  turned_item {a} {k} {l} e =
      either (λ (r : Read Piece). r ≡ got (inl (a, After k)) l) t.must must_be may_be (has_item m s t.at.at (kinds_of t.wanted.bits) e) (may_item m s t.at.at (kinds_of t.wanted.bits) x i e)

  pub turned_refused : {n p : ℕ} → next_item ≡ refused n p → turned m s x i (Some t) ≡ refused n p
  turned_refused {n} {p} e =
      either (λ (r : Read Piece). r ≡ refused n p) t.must must_be may_be (has_refused m s t.at.at (kinds_of t.wanted.bits) e) (may_refused m s t.at.at (kinds_of t.wanted.bits) x i e)

  pub turned_lacking : t.must ≡ true → next_item ≡ none → turned m s x i (Some t) ≡ map inl missing s t.at.at
  turned_lacking h e = rw h (has_none m s t.at.at (kinds_of t.wanted.bits) e)

  -- where none has to: a name, of a modifier or another, or none
  module _ (h : t.must ≡ false) (e : next_item ≡ none) where
    pub turned_modifier : {n v l : ℕ} → word s t.at.at ≡ got (n, v) l → n ≡ names.modifier → turned m s x i (Some t) ≡ map inr (with_comment v (odd names.modifier s t.at.at l)) s l
    turned_modifier w q = rw h (may_modifier m s t.at.at (kinds_of t.wanted.bits) x i e w q)

    pub turned_other : {n v l : ℕ} → word s t.at.at ≡ got (n, v) l → (n ≡ names.modifier → ⊥) → turned m s x i (Some t) ≡ map inr (plain_end x) s i
    turned_other w q = rw h (may_other m s t.at.at (kinds_of t.wanted.bits) x i e w q)

    pub turned_unnamed : word s t.at.at ≡ none → turned m s x i (Some t) ≡ branch comment (λ m. pure (inr (tail_of 0 m false))) (λ s _. map inr (plain_end x) s i) s t.at.at
    turned_unnamed w = rw h (may_unnamed m s t.at.at (kinds_of t.wanted.bits) x i e w)

-- ---- nothing was read

module _ (s : List ℕ) (i : ℕ) where
  -- an empty rule, from what parts it from the next
  empty_is : empty s i ≡ follow s i (next s i) (λ _. refuse empty_rule i) nothing
  unfolding empty rule_end stop next separator at_end byte
  empty_is = go (eqb i (length s)) (eqb 59 (get_or s i 0)) refl
    where
      last : (b : Read (Unit {0})) → follow {B = Tail} s i b (λ _. refuse empty_rule i) nothing ≡ follow s i (follow s i b (λ _. pure {A = Option ℕ} (Some 2)) nothing) (λ _. refuse empty_rule i) nothing
      last (got tt j) = refl
      last none = refl
      last (refused k p) = refl

      others : (c : Read (Unit {0})) →
          follow {B = Tail} s i (follow s i c pure bars) (λ _. refuse empty_rule i) nothing
          ≡ follow s i (follow s i (follow s i c (λ _. pure {A = Option ℕ} (Some 1)) nothing) pure (branch bars (λ _. pure {A = Option ℕ} (Some 2)) nothing)) (λ _. refuse empty_rule i) nothing
      others (got tt j) = refl
      others none = last (bars s i)
      others (refused k p) = refl

      go : (a t : Bool) → eqb 59 (get_or s i 0) ≡ t →
          follow {B = Tail} s i (follow s i (only (a || t) s i) pure (comma_blank or bars)) (λ _. refuse empty_rule i) nothing
          ≡ follow s i (follow s i (follow s i (only a s i) (λ _. pure {A = Option ℕ} None) nothing) pure separator) (λ _. refuse empty_rule i) nothing
      go true t e = refl
      go false true e = rw (one_is (eqb 59) refl s i refl e)
      go false false e = rw (one_is (eqb 59) refl s i refl e) (others (comma_blank s i))

  pub nothing_empty : {n : Option ℕ} {j : ℕ} → next s i ≡ got n j → map {B = Piece} inr (plain_end Beginning) s i ≡ refused empty_rule i
  unfolding plain_end
  nothing_empty e = rw (empty_is, e)

  pub nothing_else : next s i ≡ none → map {B = Piece} inr (plain_end Beginning) s i ≡ map inr missing s i
  unfolding plain_end
  nothing_else e = rw (empty_is, e)

-- ---- what each function of the code goes by

pub ruleset colons = (colon_blank, colon_bare)

pub ruleset blanks = (blank_on, blank_off)

pub ruleset after_items = (comma_piece, wide_piece, bare_piece)

pub ruleset stages = (first_piece, always_piece, colon_piece)

pub ruleset nothings = (nothing_empty, nothing_else)

pub ruleset turns = (word_takes, turned_item, turned_refused, turned_lacking, turned_modifier, turned_other, turned_unnamed)
