-- Demand 3 within a line of a feed (specs/Within.antt).
use Rattle.std.specs.Prelude.{if◌then◌else◌}
use Prim.Native.Nat.{ℕ, zero, suc, ◌+◌, ◌*◌, ◌-◌, ◌≤◌, ◌<◌}
use mathlib.Core.List.{List, [], ◌∷◌, ◌++◌, append-nil, append_assoc}
use mathlib.Core.Bool.{Bool, true, false}
use mathlib.Core.Path.{◌≡◌, refl, sym, ap, ◌∙◌}
use native.Mathlib.Omega.{arith}
use native.Mathlib.Decide.{dec_lt}
use lib.Dec.{eqb}
use lib.ListN.{length, get_or, length-append, get_or-append}
use lib.Seq.{get_or-append_seam, get_or-append-add}
use borrow.Author.Tests.{ne_eqb}
use Rattle.sheet.specs.Sheets.{refusal, sheet_of}
use Rattle.names.specs.declared.Manner.TheVariants.{First}
use Rattle.sheet.proofs.Readings.{sheet_held}
use Rattle.feed.specs.Lines.{in_first, lines}
use Rattle.feed.specs.Feeds.{Reading, readings}
use Rattle.demands.specs.Feeds.{room_for, line_read}
use Rattle.demands.specs.Within.{NoTen, Before, After, Within, UnchangedLines, UnchangedWithin}
use Rattle.demands.specs.Within as within
use Rattle.demands.proofs.Feeds.{read_is}
use Rattle.demands.proofs.Exchange.{exchange, exchange_others}

-- ---- the lines of a feed around one of them

-- a byte in the first of some lines
in_first_lem : (b : ℕ) (x y : List (List ℕ)) → 0 < length x → in_first b (x ++ y) ≡ in_first b x ++ y
in_first_lem b [] y h = absurd (omega arith)
in_first_lem b (l ∷ x) y h = refl

-- bytes are of some line
some_line : (b : ℕ) (s : List ℕ) → 0 < length (lines (b ∷ s))
unfolding lines
some_line b s = go (eqb b 10) (lines s)
  where
    go : (c : Bool) (x : List (List ℕ)) → 0 < length (if c then [] ∷ x else in_first b x)
    go true x = omega arith
    go false [] = omega arith
    go false (l ∷ x) = omega arith

-- bytes that end with byte 10 are whole lines
lines_ten : (p s : List ℕ) → lines (p ++ 10 ∷ s) ≡ lines (p ++ (10 ∷ [])) ++ lines s
unfolding lines
lines_ten [] s = refl
lines_ten (b ∷ p) s = go (eqb b 10) (lines_ten p s) (some p)
  where
    some : (p : List ℕ) → 0 < length (lines (p ++ (10 ∷ [])))
    some [] = some_line 10 []
    some (b ∷ p) = some_line b (p ++ (10 ∷ []))

    go : (c : Bool) → lines (p ++ 10 ∷ s) ≡ lines (p ++ (10 ∷ [])) ++ lines s → 0 < length (lines (p ++ (10 ∷ []))) →
        (if c then [] ∷ lines (p ++ 10 ∷ s) else in_first b (lines (p ++ 10 ∷ s))) ≡ (if c then [] ∷ lines (p ++ (10 ∷ [])) else in_first b (lines (p ++ (10 ∷ [])))) ++ lines s
    go true e h = ap (λ (x : List (List ℕ)). [] ∷ x) e
    go false e h = ap (in_first b) e ∙ in_first_lem b (lines (p ++ (10 ∷ []))) (lines s) h

-- so are those before a line
before_line : (p s : List ℕ) → Before p → lines (p ++ s) ≡ lines p ++ lines s
unfolding lines
before_line _ s within.first = refl
before_line _ s (within.later p) = ap lines (append_assoc p (10 ∷ []) s) ∙ lines_ten p s

-- a line that byte 10 ends
line_then : (l q : List ℕ) → NoTen l → lines (l ++ 10 ∷ q) ≡ l ∷ lines q
unfolding lines
line_then [] q h = refl
line_then (b ∷ l) q h = rw (ne_eqb b 10 h.0, line_then l q h.1)

-- a last line that it does not end
line_last : (l : List ℕ) → NoTen l → 0 < length l → lines l ≡ l ∷ []
unfolding lines
line_last [] h k = absurd (omega arith)
line_last (b ∷ []) h k = rw (ne_eqb b 10 h.0)
line_last (b ∷ c ∷ l) h k = rw (ne_eqb b 10 h.0) (ap (in_first b) (line_last (c ∷ l) h.1 (omega arith)))

-- the lines of what stands after a line
abbrev following : List ℕ → List (List ℕ)
following [] = []
following (c ∷ q) = lines q

-- a line, those before it, and those after it
line_split : (p l q : List ℕ) → Before p → NoTen l → After l q → lines (p ++ (l ++ q)) ≡ lines p ++ (l ∷ following q)
line_split p l q b h a = before_line p (l ++ q) b ∙ ap (λ (x : List (List ℕ)). lines p ++ x) (go a)
  where
    go : {q : List ℕ} → After l q → lines (l ++ q) ≡ l ∷ following q
    go (within.last k) = rw append-nil (line_last l h k)
    go (within.more q) = line_then l q h

-- ---- the room for each line

-- lines after it do not matter
room_before : (ls x : List (List ℕ)) (n k : ℕ) → k ≤ length ls → room_for (ls ++ x) n k ≡ room_for ls n k
unfolding room_for
room_before [] [] n k h = refl
room_before [] (l ∷ x) n zero h = refl
room_before [] (l ∷ x) n (suc k) h = absurd (omega arith)
room_before (l ∷ ls) x n zero h = refl
room_before (l ∷ ls) x n (suc k) h = room_before ls x (n - length (sheet_of l n).1 * 16) k (omega arith)

-- after a line, what it leaves of the room that it had
room_after : (ls x : List (List ℕ)) (l : List ℕ) (n i : ℕ) →
    let m = room_for ls n (length ls) in room_for (ls ++ (l ∷ x)) n (length ls + suc i) ≡ room_for x (m - length (sheet_of l m).1 * 16) i
unfolding room_for
room_after [] x l n i = let e : 0 + suc i ≡ suc i = omega arith in rw e
room_after (a ∷ ls) x l n i = let e : suc (length ls) + suc i ≡ suc (length ls + suc i) = omega arith in rw e (room_after ls x l (n - length (sheet_of a n).1 * 16) i)

-- ---- one line is exchanged

-- a line numbered by its place after ls
count_past : (j k : ℕ) → j < k → j + suc (k - suc j) ≡ k
count_past j k h = omega arith

module _ (ls x : List (List ℕ)) (n : ℕ) where
  abbrev this_line : ℕ
  this_line = room_for ls n (length ls)

  module _ (l : List ℕ) where
    fits : (k : ℕ) → k ≤ length ls → k < length (ls ++ (l ∷ x))
    fits k h = simp length-append (omega arith)

    -- the line itself
    read_here : (d : Reading) → get_or (readings (ls ++ (l ∷ x)) n) (length ls) d ≡ sheet_of l this_line
    read_here d =
        read_is (ls ++ (l ∷ x)) n (length ls) d (fits (length ls) (omega arith))
        ∙ rw (get_or-append_seam ls l x [], room_before ls (l ∷ x) n (length ls) (omega arith))

    -- a line before it
    read_before : (d : Reading) (k : ℕ) → k < length ls → get_or (readings (ls ++ (l ∷ x)) n) k d ≡ sheet_of (get_or ls k []) (room_for ls n k)
    read_before d k h = read_is (ls ++ (l ∷ x)) n k d (fits k (omega arith)) ∙ rw (get_or-append ls (l ∷ x) [] k h, room_before ls (l ∷ x) n k (omega arith))

    -- a line after it
    read_later : (d : Reading) (k : ℕ) → length ls < k → k < length (ls ++ (l ∷ x)) →
        get_or (readings (ls ++ (l ∷ x)) n) k d ≡ sheet_of (get_or x (k - suc (length ls)) []) (room_for (ls ++ (l ∷ x)) n k)
    read_later d k h g =
        let i = k - suc (length ls) in
        let e : get_or (ls ++ (l ∷ x)) k [] ≡ get_or x i [] = ap (λ (m : ℕ). get_or (ls ++ (l ∷ x)) m []) (sym (count_past (length ls) k h)) ∙ get_or-append-add ls (l ∷ x) (suc i) [] in
        read_is (ls ++ (l ∷ x)) n k d g ∙ ap (λ (y : List ℕ). sheet_of y (room_for (ls ++ (l ∷ x)) n k)) e

  -- as many records leave as much room
  room_same : (l l' : List ℕ) → (sheet_of l' this_line).0.records ≡ (sheet_of l this_line).0.records → (k : ℕ) → room_for (ls ++ (l' ∷ x)) n k ≡ room_for (ls ++ (l ∷ x)) n k
  room_same l l' e k = go (dec_lt (length ls) k)
    where
      many : length (sheet_of l' this_line).1 ≡ length (sheet_of l this_line).1
      many = sym (sheet_held First l' this_line).many ∙ e ∙ (sheet_held First l this_line).many

      past : (i : ℕ) → room_for (ls ++ (l' ∷ x)) n (length ls + suc i) ≡ room_for (ls ++ (l ∷ x)) n (length ls + suc i)
      past i = room_after ls x l' n i ∙ ap (λ (c : ℕ). room_for x (this_line - c * 16) i) many ∙ sym (room_after ls x l n i)

      go : Dec (length ls < k) → room_for (ls ++ (l' ∷ x)) n k ≡ room_for (ls ++ (l ∷ x)) n k
      go (yes h) = rw (count_past (length ls) k h) at (past (k - suc (length ls)))
      go (no h) = let g : k ≤ length ls = omega arith in room_before ls (l' ∷ x) n k g ∙ sym (room_before ls (l ∷ x) n k g)

  -- what the exchange of l for l' leaves
  left_lines : (l l' s s' : List ℕ) → lines s ≡ ls ++ (l ∷ x) → lines s' ≡ ls ++ (l' ∷ x) → UnchangedLines s s' (length ls) n
  left_lines l l' s s' e f =
      let d : Reading = refusal 0 0 in
      let long : length (ls ++ (l' ∷ x)) ≡ length (ls ++ (l ∷ x)) = simp length-append in
      record {
        as_many = rw (e, f) long;
        before = λ k h. rw (e, f) (read_before l' d k h ∙ sym (read_before l d k h));
        same_room = rw (e, f) (room_before ls (l' ∷ x) n (length ls) (omega arith) ∙ sym (room_before ls (l ∷ x) n (length ls) (omega arith)));
        later = later d long;
        equal_room = equal d;
      }
    where
      later : (d : Reading) → length (ls ++ (l' ∷ x)) ≡ length (ls ++ (l ∷ x)) → (k : ℕ) → length ls < k → k < length (lines s) → room_for (lines s') n k ≡ room_for (lines s) n k →
          get_or (readings (lines s') n) k d ≡ get_or (readings (lines s) n) k d
      later d long k = rw (e, f) (λ h g r. read_later l' d k h (omega arith) ∙ ap (λ (m : ℕ). sheet_of (get_or x (k - suc (length ls)) []) m) r ∙ sym (read_later l d k h g))

      equal : (d : Reading) → (get_or (readings (lines s') n) (length ls) d).0.records ≡ (get_or (readings (lines s) n) (length ls) d).0.records → (k : ℕ) → room_for (lines s') n k ≡ room_for (lines s) n k
      equal d = rw (e, f, read_here l' d, read_here l d) (room_same l l')

-- ---- a part of a line is exchanged

-- no byte 10 in two texts
both : (a b : List ℕ) → NoTen a → NoTen b → NoTen (a ++ b)
both [] b h k = k
both (c ∷ a) b h k = (h.0, both a b h.1 k)

front : (a b : List ℕ) → NoTen (a ++ b) → NoTen a
front [] b h = tt
front (c ∷ a) b h = (h.0, front a b h.1)

back : (a b : List ℕ) → NoTen (a ++ b) → NoTen b
back [] b h = h
back (c ∷ a) b h = back a b h.1

-- what the exchange leaves of the feed, and of the line
pub within_line : (p a x y b q : List ℕ) → Within p a x y b q → (n : ℕ) → UnchangedWithin p a x y b q n
within_line p a x y b q w n =
    let new : NoTen (a ++ (y ++ b)) = both a (y ++ b) (front a (x ++ b) w.line) (both y b w.no_ten (back x b (back a (x ++ b) w.line))) in
    record {
      feed =
          left_lines (lines p) (following q) n (a ++ (x ++ b)) (a ++ (y ++ b)) _ _ (line_split p (a ++ (x ++ b)) q w.starts w.line w.ends) (line_split p (a ++
          (y ++ b)) q w.starts new w.stays);
      parts = exchange w.exchanged First;
      no_others = exchange_others w.exchanged;
    }

-- a last line that no byte 10 ends is exchanged for nothing: it is no line any more, and those before it are as they were
pub line_gone : (p l : List ℕ) → Before p → NoTen l → 0 < length l → (n k : ℕ) → k < length (lines p) → line_read p n k ≡ line_read (p ++ l) n k
line_gone p l b h g n k i =
    let e : lines (p ++ l) ≡ lines p ++ (l ∷ []) = rw (append-nil l) at (line_split p l [] b h (within.last g)) in
    rw e (read_is (lines p) n k (refusal 0 0) i ∙ sym (read_before (lines p) [] n l (refusal 0 0) k i))
