-- Where a line ends, and the lines that follow it.
use Rattle.std.specs.Prelude.{if◌then◌else◌}
use Prim.Native.Nat.{ℕ, suc, ◌+◌, ◌-◌, ◌≤◌, ◌<◌}
use mathlib.Core.List.{List, [], ◌∷◌}
use mathlib.Core.Bool.{Bool, true, false}
use mathlib.Core.Logic.{◌≢◌}
use mathlib.Core.Path.{◌≡◌, refl, ap}
use native.Mathlib.Omega.{arith}
use native.Mathlib.Decide.{dec_lt}
use native.Mathlib.Numerals.{add-one}
use borrow.Author.Tests.{lt-ltb, le-ltb, eq-eqb, ne_eqb}
use lib.Dec.{eqb}
use lib.ListN.{length, get_or, take, drop, length-drop, drop_of_length-le}
use lib.Seq.{drop-cons, drop-drop}
use Rattle.feed.specs.Lines.{in_first, lines}
use Rattle.feed.specs.Into.{line_in, line_end, after_line}

-- ---- the line at the start of a text

-- it is of the text
line_fits : (s : List ℕ) → line_in s ≤ length s
unfolding line_in
line_fits [] = omega arith
line_fits (b ∷ s) = go (eqb b 10) (line_fits s)
  where
    go : (c : Bool) → line_in s ≤ length s → (if c then 0 else suc (line_in s)) ≤ suc (length s)
    go true h = omega arith
    go false h = omega arith

-- it is the first line, and the others are those after its byte 10
line_first : (b : ℕ) (s : List ℕ) → lines (b ∷ s) ≡ take (line_in (b ∷ s)) (b ∷ s) ∷ lines (drop (suc (line_in (b ∷ s))) (b ∷ s))
unfolding lines line_in
line_first b [] = go (eqb b 10)
  where
    go : (c : Bool) → (if c then [] ∷ [] else (b ∷ []) ∷ []) ≡ take (if c then 0 else 1) (b ∷ []) ∷ lines (drop (if c then 0 else 1) [])
    go true = refl
    go false = refl
line_first b (a ∷ s) = go (eqb b 10) (line_first a s)
  where
    go : (c : Bool) → lines (a ∷ s) ≡ take (line_in (a ∷ s)) (a ∷ s) ∷ lines (drop (suc (line_in (a ∷ s))) (a ∷ s)) →
        (if c then [] ∷ lines (a ∷ s) else in_first b (lines (a ∷ s))) ≡ take (if c then 0 else suc (line_in (a ∷ s))) (b ∷ a ∷ s) ∷ lines (drop (if c then 0 else suc (line_in (a ∷ s))) (a ∷ s))
    go true e = refl
    go false e = ap (in_first b) e

-- ---- the line that begins at a place

module _ (s : List ℕ) (p : ℕ) where
  -- a byte other than 10 is of it
  pub end_more : p < length s → get_or s p 0 ≢ 10 → line_end s p ≡ line_end s (p + 1)
  unfolding line_in
  end_more h e = rw (add-one p, drop-cons s p 0 h, ne_eqb (get_or s p 0) 10 e) (omega arith)

  -- byte 10 ends it
  pub end_here : p < length s → get_or s p 0 ≡ 10 → p ≡ line_end s p
  unfolding line_in
  end_here h e = rw (drop-cons s p 0 h, eq-eqb (get_or s p 0) 10 e) (omega arith)

  -- and so does the feed's end
  pub end_last : length s ≤ p → p ≡ line_end s p
  unfolding line_in
  end_last h = rw (drop_of_length-le s h) (omega arith)

  -- it ends in the feed
  pub end_fits : p ≤ length s → line_end s p ≤ length s
  end_fits h = omega (arith, line_fits (drop p s), length-drop p s)

  -- and the place after it is a later one
  after_more : p < length s → p < after_line s (line_end s p)
  after_more h = go (dec_lt (line_end s p) (length s))
    where
      go : Dec (line_end s p < length s) → p < after_line s (line_end s p)
      go (yes k) = rw (lt-ltb (line_end s p) (length s) k) (omega arith)
      go (no k) = let l : length s ≤ line_end s p = omega arith in rw (le-ltb (line_end s p) (length s) l) (omega arith)

  after_fits : p ≤ length s → after_line s (line_end s p) ≤ length s
  after_fits h = go (dec_lt (line_end s p) (length s))
    where
      go : Dec (line_end s p < length s) → after_line s (line_end s p) ≤ length s
      go (yes k) = rw (lt-ltb (line_end s p) (length s) k) (omega arith)
      go (no k) = let l : length s ≤ line_end s p = omega arith in rw (le-ltb (line_end s p) (length s) l) (end_fits h)

-- what follows a line from the place after it on
after_drop : (s : List ℕ) (e : ℕ) → drop (suc e) s ≡ drop (after_line s e) s
after_drop s e = go (dec_lt e (length s))
  where
    go : Dec (e < length s) → drop (suc e) s ≡ drop (after_line s e) s
    go (yes k) = rw (lt-ltb e (length s) k, add-one e)
    go (no k) = let l : length s ≤ e = omega arith in let m : length s ≤ suc e = omega arith in rw (le-ltb e (length s) l, drop_of_length-le s l, drop_of_length-le s m)

-- from a line at p, which ends at e, to the next place q
pub record Turn (s : List ℕ) (p e q : ℕ) : Type 0 where
  pub later : p < q
  pub fits : q ≤ length s
  pub first : lines (drop p s) ≡ take (e - p) (drop p s) ∷ lines (drop q s)

-- the lines from p on are the one that begins there, and those from the place after it on
lines_more : (s : List ℕ) (p : ℕ) → p < length s → lines (drop p s) ≡ take (line_end s p - p) (drop p s) ∷ lines (drop (after_line s (line_end s p)) s)
lines_more s p h =
    let a : line_end s p - p ≡ line_in (drop p s) = omega arith in
    let e : p + suc (line_in (drop p s)) ≡ suc (line_end s p) = omega arith in
    rw (a, ← after_drop s (line_end s p), ← e, ← drop-drop (suc (line_in (drop p s))) p s, drop-cons s p 0 h) (line_first (get_or s p 0) (drop (suc p) s))

pub turn : (s : List ℕ) (p : ℕ) {e q : ℕ} → p < length s → e ≡ line_end s p → q ≡ after_line s e → Turn s p e q
turn s p h d f = rw (f, d) (record { later = after_more s p h; fits = after_fits s p (omega arith); first = lines_more s p h })

-- there are none at the feed's end
pub lines_none : (s : List ℕ) (p : ℕ) → length s ≤ p → lines (drop p s) ≡ []
unfolding lines
lines_none s p h = rw (drop_of_length-le s h)
