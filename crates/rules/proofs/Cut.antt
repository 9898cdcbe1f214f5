-- Each definition depends on nothing before its place and nothing from a `;` outside quotes on: the lemmas put together as the definitions are.
use Rattle.std.specs.Prelude.{Some, None, if◌then◌else◌}
use Prim.Native.Nat.{ℕ, zero, suc, ◌+◌, ◌-◌, ◌<◌}
use mathlib.Core.List.{List, [], ◌∷◌, ◌++◌, append-nil}
use mathlib.Core.List as list
use mathlib.Core.Bool.{Bool, true, false, ◌||◌}
use mathlib.Core.Path.{◌≡◌, refl, sym, ap, ◌∙◌}
use native.Mathlib.Omega.{arith}
use native.Mathlib.Decide.{dec_lt}
use native.Mathlib.Nat.{add-suc}
use borrow.Author.Tests.{eq-eqb, ne_eqb, ltb-true}
use lib.Dec.{ltb, eqb}
use lib.ListN.{length, get_or, length-append, length-map, get_or-append}
use lib.Seq.{get_or-append-add, get_or_at}
use Rattle.names.specs.Read.{Read, got, none, refused, Reader, follow, branch, nothing, pure, refuse, here, when, only, one}
use Rattle.names.specs.Chain.{skip, chain}
use Rattle.names.specs.Texts.{byte, bytes}
use Rattle.names.specs.Refusals.{empty_rule, ill_formed_comment}
use Rattle.names.specs.Names as names
use Rattle.names.proofs.Local.{Tail as Tails, Follows, stop_end, stop_at, Side, At, compare_add, look_local, Ended, Stop, moved, keep, LocalFrom, LocalIn, Local, in_any, past_one, narrow, loose}
use Rattle.names.proofs.Local.{free, nothing_local, pure_local, refuse_local, here_local, here_then, branch_moved, bind_local, then_local, then_moved, map_local, or_local}
use Rattle.names.proofs.Local.{maybe_local, inner_local, quote_local, ahead_local, only_local}
use Rattle.names.proofs.Ended.{byte_ended, at_end_ended}
use Rattle.names.proofs.Chains.{step_moves, chain_moves, chain_local, chain_takes, many_local}
use Rattle.names.proofs.Cut.{byte_local, blank_local, comma_local}
use Rattle.names.proofs.NameCut.{plain, all_of_local}
use Rattle.names.proofs.Odd.{named_local}
use Rattle.names.specs.declared.Manner.{Manner}
use Rattle.names.specs.declared.Manner.TheVariants.{Second}
use Rattle.records.specs.Warnings.{item_warnings}
use Rattle.records.specs.Words.{Placed}
use Rattle.items.specs.Kinds.{after_blank}
use Rattle.items.specs.declared.Kind.{Kind}
use Rattle.items.proofs.Cut.{missing_local, must_local, placed_moves, least_of, takes_one, after_blank_local, item_in_local}
use Rattle.utf8.specs.Letters.{is_inner, letters}
use Rattle.utf8.proofs.Cut.{letters_local}
use Rattle.rules.specs.Comments.{comment_of, no_comment, closed, ill_formed, comment, comment_apart}
use Rattle.rules.specs.Modifiers.{tail_of, with_comment, modifier}
use Rattle.rules.specs.Rows.{small, first, listed, following, is_wide}
use Rattle.rules.specs.Pieces.{empty, item_from, goes_on, colon_sign, colon, more, plain_end, end}
use Rattle.rules.specs.Rules.{opening_of, always, wide_comment, opening, wins, tail_warnings, items_warnings, Rule, rule_of, after_opening, rule}
use Rattle.rules.specs.Separators.{comma_blank, bars, separator, next, stop, rule_end}
use Rattle.records.specs.declared.Comment.{Comment}
use Rattle.rules.specs.declared.Opening.{Opening}
use Rattle.rules.specs.declared.Stage.{Stage}
use Rattle.rules.specs.declared.Stage.TheVariants.{Beginning, Always, Colon, After}
use Rattle.rules.specs.declared.Tail.{Tail}
use Rattle.records.specs.declared.Head.{Head}

-- ---- values that hold a place

-- a comment's start moves; the 0 of no comment stays
abbrev pub start_moves : ℕ → ℕ → ℕ → ℕ
start_moves n zero start = start
start_moves n (suc l) start = n + start

abbrev pub comment_moves : ℕ → Comment → Comment
comment_moves n c = comment_of (start_moves n c.length c.start) c.length

abbrev pub tail_moves : ℕ → Tail → Tail
tail_moves n t = tail_of t.state (comment_moves n t.comment) t.odd

abbrev pub opening_moves : ℕ → Opening → Opening
opening_moves n o = opening_of o.stage (comment_moves n o.comment)

abbrev pub head_moves : ℕ → Head → Head
head_moves n h = record { place = n + h.place; separator = h.separator; state = h.state; comment = comment_moves n h.comment; items = h.items; warnings = h.warnings }

abbrev pub rule_moves : ℕ → Rule → Rule
rule_moves n r = (head_moves n r.0, list.map (placed_moves n) r.1)

-- the pieces of a rule
abbrev pub pieces_moves : ℕ → List Placed × Tail → List Placed × Tail
pieces_moves = chain_moves placed_moves tail_moves

-- ---- comments

-- the value of a reading, where there is one, is so
abbrev pub Found : {A : Type 0} → (A → Type 0) → Read A → Type 0
Found P (got a j) = P a
Found P none = Unit {0}
Found P (refused k p) = Unit {0}

-- of one reader after another, the second's is
pub found_then : {A B : Type 0} (P : B → Type 0) (s : List ℕ) (i : ℕ) (f : A → Reader B) (r : Read A) → ((a : A) (j : ℕ) → r ≡ got a j → Found P (f a s j)) → Found P (follow s i r f nothing)
found_then P s i f (got a j) h = h a j refl
found_then P s i f none h = tt
found_then P s i f (refused k p) h = tt

-- of one reader or another, both are
pub found_or : {A : Type 0} (P : A → Type 0) (s : List ℕ) (i : ℕ) (r : Read A) (n : Reader A) → Found P r → Found P (n s i) → Found P (follow s i r pure n)
found_or P s i (got a j) n h k = h
found_or P s i none n h k = k
found_or P s i (refused e p) n h k = tt

-- values that are found move in another way that comes to the same
by_found : {A : Type 0} {Q : Tails} {sh sh₂ : ℕ → A → A} {u : List ℕ} {a c : Bool} {k : ℕ} {m' m : Reader A} →
    Local Q sh u a c k m' m → ((s : List ℕ) (i : ℕ) → Found (λ x. sh (length u) x ≡ sh₂ (length u) x) (m s i)) → Local Q sh₂ u a c k m' m
by_found {A} {sh = sh} {sh₂} {u} {m = m} M h = record { ends = M.ends; same = λ s v i z w. M.same s v i z w ∙ go (m s i) (h s i); near = M.near }
  where
    go : (x : Read A) → Found (λ x. sh (length u) x ≡ sh₂ (length u) x) x → moved sh (length u) x ≡ moved sh₂ (length u) x
    go (got x j) e = rw e
    go none e = refl
    go (refused k p) e = refl

-- a comment whose start moves
abbrev shifted : ℕ → Comment → Comment
shifted n c = comment_of (n + c.start) c.length

-- the same where it has bytes
start_moves_lem : (n l start : ℕ) → 0 < l → n + start ≡ start_moves n l start
start_moves_lem n zero start h = absurd (omega arith)
start_moves_lem n (suc l) start h = refl

-- a test that let pass passed
only_was : (t : Bool) (i j : ℕ) → when t (got (tt {0}) i) ≡ got tt j → t ≡ true
only_was true i j e = refl
only_was false i j e = cc

-- a comment that is found has bytes, and stands in its text
module _ (P : Comment → Type 0) (s : List ℕ) (has : (start end : ℕ) → start < end → end < length s → P (comment_of start (end - start))) where
  closed_has : (start i : ℕ) → Found P (closed start s i)
  unfolding closed
  closed_has start i =
      found_then P s i _ (byte 34 s i) (λ _ j e.
      found_then P s j _ (only (ltb start i) s j) (λ _ k f. has start i (ltb-true start i (only_was (ltb start i) j k f)) (omega (arith, past_one (byte_ended {a = true} {c = true} 34) e))))

  ill_formed_has : (p i : ℕ) → Found P (ill_formed p s i)
  unfolding ill_formed
  ill_formed_has p i = found_then P s i _ (one is_inner s i) (λ _ j _. found_then P s j _ (skip is_inner s j) (λ _ k _. found_then P s k _ (byte 34 s k) (λ _ _ _. tt)))

  pub comment_has : (i : ℕ) → Found P (comment s i)
  unfolding comment
  comment_has i = found_then P s i _ (byte 34 s i) (λ _ j _. found_then P s j _ (letters s j) (λ _ k _. found_or P s k (closed j s k) (ill_formed i) (closed_has j k) (ill_formed_has i k)))

-- between the quotes a `;` is a byte like others
inner_skip : {u : List ℕ} → Local Stop keep u true true 0 (skip is_inner) (skip is_inner)
unfolding skip is_inner
inner_skip = map_local _ _ (λ x. refl) (many_local (inner_local is_inner refl))

-- two places that move stay as far apart, and in order
same_length : (n start end : ℕ) → n + end - (n + start) ≡ end - start
same_length n start end = omega arith

same_order : (n start end : ℕ) → ltb (n + start) (n + end) ≡ ltb start end
same_order n start end = rw (← add-suc n start, compare_add n (suc start) end)

-- the closing quote, after characters and after other bytes
closed_local : {u : List ℕ} (start : ℕ) → Local Stop shifted u true false 1 (closed (length u + start)) (closed start)
unfolding closed
closed_local {u} start =
    let f : ℕ → ℕ → Reader Comment = λ start end. branch (byte 34) (λ _. branch (only (ltb start end)) (λ _. pure (comment_of start (end - start))) nothing) nothing in
    loose (branch_moved {k = 0} {l = 1} (f (length u + start)) (f start) here_local (λ end.
    rw (same_order (length u) start end, same_length (length u) start end) (then_local (quote_local true) (λ _. then_local (only_local (ltb start end)) (λ _. pure_local
    (comment_of start (end - start)))))) nothing_local) (omega arith)

ill_formed_local : {u : List ℕ} (p : ℕ) → LocalFrom Second p Stop shifted u true false 1 (ill_formed (length u + p)) (ill_formed p)
unfolding ill_formed is_inner
ill_formed_local p = then_local (inner_local is_inner refl) (λ _. then_local inner_skip (λ _. then_local (free (quote_local true)) (λ _. refuse_local ill_formed_comment p (omega arith))))

comment_shifted : {u : List ℕ} → Local Stop shifted u false false 1 comment comment
unfolding comment
comment_shifted {u} =
    let g : ℕ → ℕ → Reader Comment = λ p start. branch letters (λ _. branch (closed start) pure (ill_formed p)) nothing in
    let f : ℕ → Reader Comment = λ p. branch (byte 34) (λ _. branch here (g p) nothing) nothing in
    here_then f f (λ p. then_local (quote_local false) (λ _. then_moved (g (length u + p)) (g p) here_local (λ start. then_local letters_local (λ _. free (or_local
    (closed_local start) (ill_formed_local p))))))

pub comment_local : {u : List ℕ} → Local Stop comment_moves u false false 1 comment comment
comment_local {u} = by_found comment_shifted (λ s i. comment_has _ s (λ start end h _. rw (start_moves_lem (length u) (end - start) start (omega arith))) i)

pub comment_apart_local : {u : List ℕ} → Local Stop comment_moves u false false 2 comment_apart comment_apart
unfolding comment_apart
comment_apart_local = bind_local blank_local (λ _. comment_local)

-- ---- modifiers

pub with_comment_local : {u : List ℕ} (state : ℕ) (odd : Bool) → Local Stop tail_moves u false false 0 (with_comment state odd) (with_comment state odd)
unfolding with_comment
with_comment_local state odd = map_local (λ c. tail_of state c odd) (λ c. tail_of state c odd) (λ c. refl) (maybe_local comment_apart_local no_comment)

pub modifier-local : {u : List ℕ} → Local Stop tail_moves u false false 1 modifier modifier
unfolding modifier
modifier-local = or_local (then_local (loose (named_local names.modifier) (omega arith)) (λ w. with_comment_local w.0 w.1)) (map_local (λ c. tail_of 0 c false) (λ c. tail_of 0 c false) (λ c. refl) comment_local)

-- a modifier after a blank, or none
selected_local : {u : List ℕ} → let t = tail_of 0 no_comment false in Local Stop tail_moves u false false 0 (branch (after_blank modifier) pure (pure t)) (branch (after_blank modifier) pure (pure t))
selected_local = maybe_local (bind_local blank_local (λ _. modifier-local)) (tail_of 0 no_comment false)

-- ---- openings

pub always_local : {u : List ℕ} → Local Stop opening_moves u false false 4 always always
unfolding always plain
always_local = then_local (all_of_local (λ b. b) (bytes "24/7") refl) (λ _. pure_local (opening_of Always no_comment))

pub wide_comment_local : {u : List ℕ} → Local Stop opening_moves u false false 2 wide_comment wide_comment
unfolding wide_comment
wide_comment_local =
    let f : Comment → Reader Opening = λ c. branch (byte 58) (λ _. pure (opening_of Colon c)) nothing in
    branch_moved f f comment_local (λ c. then_local (byte_local 58 refl refl) (λ _. pure_local (opening_of Colon c))) nothing_local

-- an opening takes any
pub opening_local : {u : List ℕ} → Local Stop opening_moves u false false 0 opening opening
unfolding opening
opening_local = or_local (free always_local) (or_local (free wide_comment_local) (pure_local (opening_of Beginning no_comment)))

-- ---- separators

pub comma_blank_local : {u : List ℕ} → Local Stop keep u false false 1 comma_blank comma_blank
unfolding comma_blank
comma_blank_local = then_local (byte_local 44 refl refl) (λ _. ahead_local (eqb 32) refl)

pub bars_local : {u : List ℕ} → Local Stop keep u false false 2 bars bars
unfolding bars
bars_local = bind_local (byte_local 124 refl refl) (λ _. byte_local 124 refl refl)

-- the text's end, or the `;` that stands there in a longer text
pub stop_local : {u : List ℕ} → Local Stop keep u false false 0 stop stop
unfolding stop
stop_local {u} = look_local (λ s i. eqb i (length s) || eqb 59 (get_or s i 0)) (λ s v i z w. alike s v i z w)
  where
    at : (s t : List ℕ) (i : ℕ) → Side false s i → Dec (i < length s) → (eqb i (length (s ++ 59 ∷ t)) || eqb 59 (get_or (s ++ 59 ∷ t) i 0)) ≡ (eqb i (length s) || eqb 59 (get_or s i 0))
    at s t i w (yes h) = rw (get_or-append s (59 ∷ t) 0 i h, ne_eqb i (length s) (λ e. omega arith), ne_eqb i (length (s ++ 59 ∷ t)) (λ e. omega (arith, simp length-append at e)))
    at s t i w (no h) = let q : i ≡ length s = omega (arith, w.fits) in rw (get_or_at s 59 t 0 i (sym q), eq-eqb i (length s) q) (or_true (eqb i (length (s ++ 59 ∷ t))))
      where
        or_true : (b : Bool) → (b || true) ≡ true
        or_true true = refl
        or_true false = refl

    cut : (s v : List ℕ) (i : ℕ) → Follows Stop v → At v false s i → (eqb i (length (s ++ v)) || eqb 59 (get_or (s ++ v) i 0)) ≡ (eqb i (length s) || eqb 59 (get_or s i 0))
    cut s v i stop_end w = rw append-nil
    cut s v i (stop_at t) w = at s t i w (dec_lt i (length s))

    alike : (s v : List ℕ) (i : ℕ) → Follows Stop v → At v false s i →
        (eqb (length u + i) (length (u ++ (s ++ v))) || eqb 59 (get_or (u ++ (s ++ v)) (length u + i) 0)) ≡ (eqb i (length s) || eqb 59 (get_or s i 0))
    alike s v i z w = rw (get_or-append-add u (s ++ v) i 0, length-append u (s ++ v), compare_add (length u) i (length (s ++ v))) (cut s v i z w)

pub empty_local : {u : List ℕ} {k : ℕ} {sh : ℕ → Tail → Tail} → Local Stop sh u false false k empty empty
unfolding empty rule_end
empty_local {k = k} =
    let f : ℕ → Reader Tail = λ p. branch rule_end (λ _. refuse empty_rule p) nothing in
    here_then f f (λ p. loose (bind_local {k = 0} {l = k} (or_local stop_local (or_local (free comma_blank_local) (free bars_local))) (λ _. refuse_local empty_rule p (omega arith))) (omega arith))

-- ---- pieces

module _ {u : List ℕ} where
  -- an item, and the stage after it, which holds no place
  item_from_local : (m : Manner) (ks : List Kind) → LocalIn m Stop (step_moves placed_moves) u false false (least_of ks) (item_from m ks) (item_from m ks)
  item_from_local m ks = map_local (λ a. (a.0, After a.1)) (λ a. (a.0, After a.1)) (λ a. refl) (item_in_local m ks)

  -- with the comma or the blank before it, an item takes two bytes, and so does the first
  one_more : (m : Manner) (ks : List Kind) → LocalIn m Stop (step_moves placed_moves) u false false 1 (item_from m ks) (item_from m ks)
  one_more m ks = loose (item_from_local m ks) (takes_one ks)

  after_blank_more : (m : Manner) (ks : List Kind) → LocalIn m Stop (step_moves placed_moves) u false false 2 (after_blank (item_from m ks)) (after_blank (item_from m ks))
  after_blank_more m ks = after_blank_local (one_more m ks)

  pub colon_sign_local : (k : Kind) → Local Stop keep u false false 1 (colon_sign k) (colon_sign k)
  unfolding colon_sign
  colon_sign_local k = loose (bind_local {k = 0} (only_local (is_wide k)) (λ _. byte_local 58 refl refl)) (omega arith)

  pub more_local : (m : Manner) (x : Stage) → LocalIn m Stop (step_moves placed_moves) u false false 2 (more m x) (more m x)
  unfolding more goes_on colon
  more_local m Beginning = item_from_local m first
  more_local m Always = nothing_local
  more_local m Colon = must_local (after_blank_more m small)
  more_local m (After k) =
      or_local (bind_local {l = 1} (in_any comma_local) (λ _. must_local (one_more m (listed k))))
      (or_local (loose (bind_local {l = 2} (in_any (colon_sign_local k)) (λ _. must_local (after_blank_more m small))) (omega arith)) (after_blank_more m (following k)))

  pub end_local : (x : Stage) → Local Stop tail_moves u false false 0 (end x) (end x)
  unfolding end plain_end
  end_local Beginning = free (or_local modifier-local (or_local empty_local missing_local))
  end_local Always = selected_local
  end_local Colon = selected_local
  end_local (After k) = selected_local

  -- without selectors, an end takes a byte
  pub beginning_end : Local Stop tail_moves u false false 1 (end Beginning) (end Beginning)
  unfolding end plain_end
  beginning_end = or_local modifier-local (or_local empty_local missing_local)

  -- the pieces of a rule
  pub pieces_local : (m : Manner) (x : Stage) → LocalIn m Stop pieces_moves u false false 0 (chain (more m) end x) (chain (more m) end x)
  pieces_local m x = chain_local placed_moves (more_local m) (λ y. in_any (end_local y)) x

  -- from the beginning, they and the end take a byte
  pub beginning_local : (m : Manner) → LocalIn m Stop pieces_moves u false false 1 (chain (more m) end Beginning) (chain (more m) end Beginning)
  beginning_local m = chain_takes placed_moves (more_local m) (λ y. in_any (end_local y)) Beginning (in_any beginning_end)

-- ---- a rule

-- the comment that wins, moved
wins_moves : (n : ℕ) (c wide : Comment) → wins (comment_moves n c) (comment_moves n wide) ≡ comment_moves n (wins c wide)
unfolding wins
wins_moves n c wide = go (eqb c.length 0)
  where
    go : (t : Bool) → (if t then comment_moves n wide else comment_moves n c) ≡ comment_moves n (if t then wide else c)
    go true = refl
    go false = refl

-- items that move have the same warnings
warnings_move : (n : ℕ) (l : List Placed) → items_warnings (list.map (placed_moves n) l) ≡ items_warnings l
unfolding items_warnings
warnings_move n [] = refl
warnings_move n (a ∷ l) = ap (λ k. item_warnings a.0 + k) (warnings_move n l)

-- the rule of pieces that move
rule_moves_lem : (n place separator : ℕ) (wide : Comment) (r : List Placed × Tail) → rule_of (n + place) separator (comment_moves n wide) (pieces_moves n r) ≡ rule_moves n (rule_of place separator wide r)
rule_moves_lem n place separator wide r =
    rw (length-map r.0 (placed_moves n), warnings_move n r.0)
    (ap (λ (c : Comment). (
      record { place = n + place; separator = separator; state = r.1.state; comment = c; items = length r.0; warnings = items_warnings r.0 + tail_warnings r.1 },
      list.map (placed_moves n)
          r.0,
    )) (wins_moves n r.1.comment wide))

-- one reader or another, and what follows: read as the first and what follows, or the second and what follows
or_then : {A B : Type 0} (m n : Reader A) (f : A → Reader B) (s : List ℕ) (i : ℕ) → branch (branch m pure n) f nothing s i ≡ branch m f (branch n f nothing) s i
or_then {A} m n f s i = go (m s i)
  where
    go : (r : Read A) → follow s i (follow s i r pure n) f nothing ≡ follow s i r f (branch n f nothing)
    go (got a j) = refl
    go none = refl
    go (refused k p) = refl

-- so the second may take its bytes with what follows
or_then_moved : {A B : Type 0} {e : Manner} {Q : Tails} {sh : ℕ → A → A} {sh₂ : ℕ → B → B} {u : List ℕ} {a b c : Bool} {k : ℕ} {m' m : Reader A} (n' n : Reader A) (f' f : A → Reader B) → LocalIn e Q sh u a b k m' m →
    ((x : A) → LocalIn e Q sh₂ u b c 0 (f' (sh (length u) x)) (f x)) → LocalIn e Q sh₂ u a c k (branch n' f' nothing) (branch n f nothing) →
    LocalIn e Q sh₂ u a c k (branch (branch m' pure n') f' nothing) (branch (branch m pure n) f nothing)
or_then_moved {e = e} {Q} {sh₂ = sh₂} {u} {a} {c = c} {k} {m'} {m} n' n f' f M F N =
    let G : LocalIn e Q sh₂ u a c k (branch m' f' (branch n' f' nothing)) (branch m f (branch n f nothing)) = loose (branch_moved {l = 0} f' f M F (loose N (omega arith))) (omega arith) in
    record {
      ends = λ s v i z w. rw (or_then m n f s i) (G.ends s v i z w);
      same = λ s v i z w. or_then m' n' f' _ _ ∙ G.same s v i z w ∙ ap (moved sh₂ (length u)) (sym (or_then m n f s i));
      near = λ s i h. rw (or_then m n f s i) (G.near s i h);
    }

module _ {u : List ℕ} (m : Manner) (separator : ℕ) where
  -- what is after an opening takes the bytes that its pieces and its end do
  after_opening_takes : {k : ℕ} (place : ℕ) (o : Opening) → LocalIn m Stop pieces_moves u false false k (chain (more m) end o.stage) (chain (more m) end o.stage) →
      LocalIn m Stop rule_moves u false false k (after_opening m (length u + place) separator (opening_moves (length u) o)) (after_opening m place separator o)
  unfolding after_opening
  after_opening_takes place o M =
      map_local (rule_of (length u + place) separator (comment_moves (length u) o.comment)) (rule_of place separator o.comment) (rule_moves_lem (length u) place separator o.comment) M

  pub after_opening_local : (place : ℕ) (o : Opening) → LocalIn m Stop rule_moves u false false 0 (after_opening m (length u + place) separator (opening_moves (length u) o)) (after_opening m place separator o)
  after_opening_local place o = after_opening_takes place o (pieces_local m o.stage)

  -- a rule that does not begin with `24/7`: the comment of a wide part takes a byte, or what is after no opening
  not_always_local : (place : ℕ) →
      let n = branch wide_comment pure (pure (opening_of Beginning no_comment)) in
      LocalIn m Stop rule_moves u false false 1 (branch n (after_opening m (length u + place) separator) nothing) (branch n (after_opening m place separator) nothing)
  not_always_local place =
      let o = opening_of Beginning no_comment in
      let after = after_opening m (length u + place) separator in
      or_then_moved (pure o) (pure o) after (after_opening m place separator) (in_any (loose wide_comment_local (omega arith))) (after_opening_local place) (after_opening_takes place o (beginning_local m))

  -- a rule takes a byte: its opening does, or what is after none
  opened_local : (place : ℕ) → LocalIn m Stop rule_moves u false false 1 (branch opening (after_opening m (length u + place) separator) nothing) (branch opening (after_opening m place separator) nothing)
  unfolding opening
  opened_local place =
      let n = branch wide_comment pure (pure (opening_of Beginning no_comment)) in
      or_then_moved n n (after_opening m (length u + place) separator) (after_opening m place separator) (in_any (loose always_local (omega arith))) (after_opening_local place) (not_always_local place)

  pub rule_local : LocalIn m Stop rule_moves u false false 1 (rule m separator) (rule m separator)
  unfolding rule
  rule_local =
      let f : ℕ → Reader Rule = λ p. branch opening (after_opening m p separator) nothing in
      loose (branch_moved f f here_local opened_local nothing_local) (omega arith)

-- ---- what parts rules

-- what parts rules begins with `;` itself, or is the text's end: nothing stands after
pub separator_ended : {u : List ℕ} → Local Ended keep u false false 1 separator separator
unfolding separator
separator_ended =
    or_local (then_local (byte_ended 59) (λ _. pure_local (Some 0)))
    (or_local (then_local (narrow comma_blank_local) (λ _. pure_local (Some 1))) (then_local (loose (narrow bars_local) (omega arith)) (λ _. pure_local (Some 2))))

pub next_ended : {u : List ℕ} → Local Ended keep u false false 0 next next
unfolding next
next_ended = or_local (then_local at_end_ended (λ _. pure_local None)) (free separator_ended)
