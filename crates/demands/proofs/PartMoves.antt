-- A part of a text that stands after u is answered as it is in its text, with the places moved; two moves are one, and a move by 0 is none.
use Rattle.std.specs.Prelude.{if◌then◌else◌}
use Prim.Native.Nat.{ℕ, zero, suc, ◌+◌, ◌≤◌}
use mathlib.Core.List.{List, [], ◌∷◌, ◌++◌, map}
use mathlib.Core.Bool.{Bool, true, false}
use mathlib.Core.Path.{◌≡◌, refl, ap, ◌∙◌}
use native.Mathlib.Omega.{arith}
use native.Mathlib.Nat.{zero-add, add-suc}
use lib.Dec.{ltb, eqb}
use lib.IntN.{ℤ, pos, +ℤ_idl, +ℤ_assoc}
use lib.ListN.{length, get_or, take, length-append}
use lib.Seq.{set-get_or, take-append-add, drop-append-add}
use borrow.Author.Tests.{le-ltb}
use Rattle.names.specs.declared.Manner.{Manner}
use Rattle.names.proofs.Local.{compare_add}
use Rattle.parts.specs.Parts.{begins, part_end}
use Rattle.sheet.specs.Sheets.{text_of}
use Rattle.sheet.specs.PartReadings.{part_answer_of, with_next, part_by}
use Rattle.demands.specs.Moved.{moved_word, has_comment, moved_record, moved_reading, moved_next, moved_part}
use Rattle.sheet.specs.declared.Answer.{Answer}
use Rattle.sheet.specs.declared.PartAnswer.{PartAnswer}
use Rattle.demands.proofs.TextMoves.{text_move}

-- ---- two moves are one

-- of a word
word_twice : (k d e : ℕ) (r : List ℤ) → moved_word k d (moved_word k e r) ≡ moved_word k (d + e) r
word_twice k d e [] = refl
word_twice zero d e (x ∷ r) = rw (← +ℤ_assoc (pos d) (pos e) x)
word_twice (suc k) d e (x ∷ r) = rw (word_twice k d e r)

-- words that are not the same do not meddle
word_other : (k l e : ℕ) (r : List ℤ) → (k ≡ l → ⊥) → get_or (moved_word l e r) k (pos 0) ≡ get_or r k (pos 0)
word_other k l e [] h = refl
word_other zero zero e (x ∷ r) h = absurd (h refl)
word_other zero (suc l) e (x ∷ r) h = refl
word_other (suc k) zero e (x ∷ r) h = refl
word_other (suc k) (suc l) e (x ∷ r) h = word_other k l e r (λ q. h (ap suc q))

word_swap : (k l d e : ℕ) (r : List ℤ) → (k ≡ l → ⊥) → moved_word k d (moved_word l e r) ≡ moved_word l e (moved_word k d r)
word_swap k l d e [] h = refl
word_swap zero zero d e (x ∷ r) h = absurd (h refl)
word_swap zero (suc l) d e (x ∷ r) h = refl
word_swap (suc k) zero d e (x ∷ r) h = refl
word_swap (suc k) (suc l) d e (x ∷ r) h = rw (word_swap k l d e r (λ q. h (ap suc q)))

-- of a comment's start
abbrev moved_start : ℕ → List ℤ → List ℤ
moved_start d r = if has_comment r then moved_word 3 d r else r

-- whether there is a comment, words 0 and 4 say
comment_stays : (k e : ℕ) (r : List ℤ) → (0 ≡ k → ⊥) → (4 ≡ k → ⊥) → has_comment (moved_word k e r) ≡ has_comment r
comment_stays k e r h g = rw (word_other 0 k e r h, word_other 4 k e r g)

start_twice : (d e : ℕ) (r : List ℤ) → moved_start d (moved_start e r) ≡ moved_start (d + e) r
start_twice d e r = go (has_comment r) refl
  where
    go : (t : Bool) → has_comment r ≡ t → moved_start d (if t then moved_word 3 e r else r) ≡ (if t then moved_word 3 (d + e) r else r)
    go true h = rw (comment_stays 3 e r (λ q. omega arith) (λ q. omega arith), h) (word_twice 3 d e r)
    go false h = rw h

-- a place moves beside it
start_place : (d e : ℕ) (r : List ℤ) → moved_start d (moved_word 15 e r) ≡ moved_word 15 e (moved_start d r)
start_place d e r = rw (comment_stays 15 e r (λ q. omega arith) (λ q. omega arith)) (go (has_comment r))
  where
    go : (t : Bool) → (if t then moved_word 3 d (moved_word 15 e r) else moved_word 15 e r) ≡ moved_word 15 e (if t then moved_word 3 d r else r)
    go true = word_swap 3 15 d e r (λ q. omega arith)
    go false = refl

-- of a record
record_twice : (d e : ℕ) (r : List ℤ) → moved_record d (moved_record e r) ≡ moved_record (d + e) r
unfolding moved_record
record_twice d e r =
    ap (moved_word 15 d) (start_place d e (moved_start e r)) ∙ word_twice 15 d e (moved_start d (moved_start e r)) ∙ ap (moved_word 15 (d + e)) (start_twice d e r)

-- of records
records_twice : (d e : ℕ) (l : List (List ℤ)) → map (moved_record d) (map (moved_record e) l) ≡ map (moved_record (d + e)) l
records_twice d e [] = refl
records_twice d e (r ∷ l) = rw (record_twice d e r, records_twice d e l)

-- of a place that stays where a test says so
place_twice : (d e : ℕ) (stays : Bool) (p : ℕ) → (if stays then (if stays then p else e + p) else d + (if stays then p else e + p)) ≡ (if stays then p else (d + e) + p)
place_twice d e true p = refl
place_twice d e false p = omega arith

-- of a next part's place
next_twice : (d e : ℕ) (last : Bool) (n : ℕ) → moved_next d last (moved_next e last n) ≡ moved_next (d + e) last n
next_twice d e true n = omega arith
next_twice d e false n = omega arith

-- of a part's answer and records
pub part_twice : (d e : ℕ) (r : PartAnswer × List (List ℤ)) → moved_part d (moved_part e r) ≡ moved_part (d + e) r
part_twice d e r = rw (records_twice d e r.1, place_twice d e (eqb r.0.number 0) r.0.place, next_twice d e r.0.last r.0.next)

-- ---- a move by 0 is none

-- of a word
word_still : (k : ℕ) (r : List ℤ) → moved_word k 0 r ≡ r
word_still k r = rw (+ℤ_idl (get_or r k (pos 0)), set-get_or r k (pos 0))

-- of a record
record_still : (r : List ℤ) → moved_record 0 r ≡ r
unfolding moved_record
record_still r = rw (word_still 3 r) (ap (moved_word 15 0) (same (has_comment r)) ∙ word_still 15 r)
  where
    same : (t : Bool) → (if t then r else r) ≡ r
    same true = refl
    same false = refl

-- of records
records_still : (l : List (List ℤ)) → map (moved_record 0) l ≡ l
records_still [] = refl
records_still (r ∷ l) = rw (record_still r, records_still l)

-- of a place
place_still : (stays : Bool) (p : ℕ) → (if stays then p else 0 + p) ≡ p
place_still true p = refl
place_still false p = zero-add p

-- of a next part's place
next_still : (last : Bool) (n : ℕ) → moved_next 0 last n ≡ n
next_still true n = omega arith
next_still false n = omega arith

-- of a part's answer and records
pub part_still : (r : PartAnswer × List (List ℤ)) → moved_part 0 r ≡ r
part_still r = rw (records_still r.1, place_still (eqb r.0.number 0) r.0.place, next_still r.0.last r.0.next)

-- ---- a part after u

-- where it ends
end_move : (u t : List ℕ) (p : ℕ) → part_end (u ++ t) (length u + p) ≡ length u + part_end t p
unfolding part_end
end_move u t p = rw (drop-append-add u t p) (omega arith)

-- the next part's place
next_move : (u t : List ℕ) (e : ℕ) (r : Answer × List (List ℤ)) →
    (with_next (u ++ t) (length u + e) (moved_reading (length u) r).0, (moved_reading (length u) r).1) ≡ moved_part (length u) (with_next t e r.0, r.1)
unfolding with_next
next_move u t e r = rw (length-append u t, ← add-suc (length u) e, compare_add (length u) (suc e) (length t)) (go (ltb e (length t)))
  where
    go : (more : Bool) →
        (if more then part_answer_of (moved_reading (length u) r).0 (length u + suc e) false else part_answer_of (moved_reading (length u) r).0 0 true, map (moved_record (length u)) r.1)
        ≡ moved_part (length u) (if more then part_answer_of r.0 (suc e) false else part_answer_of r.0 0 true, r.1)
    go true = refl
    go false = refl

-- the move law of a part
pub part_move : (m : Manner) (u t : List ℕ) (p n : ℕ) → length (u ++ t) ≤ 4096 → begins (u ++ t) (length u + p) ≡ true → begins t p ≡ true →
    part_by m (u ++ t) (length u + p) n ≡ moved_part (length u) (part_by m t p n)
unfolding part_by
part_move m u t p n h b b₂ =
    let l : length t ≤ 4096 = omega (arith, length-append u t) in
    rw (le-ltb 4096 (length (u ++ t)) h, le-ltb 4096 (length t) l, b, b₂, end_move u t p, take-append-add u t (part_end t p), text_move m u (take (part_end t p) t) p n)
    (next_move u t (part_end t p) (text_of m (take (part_end t p) t) p n))
