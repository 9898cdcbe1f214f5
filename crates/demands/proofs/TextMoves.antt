-- The answer and the records of a text that stands after u are its own, with their places moved.
use Rattle.std.specs.Prelude.{if◌then◌else◌}
use Prim.Native.Nat.{ℕ, zero, suc, ◌+◌, ◌/◌}
use mathlib.Core.List.{List, [], ◌∷◌, ◌++◌, map, map-append}
use mathlib.Core.Bool.{Bool, true, false}
use mathlib.Core.Path.{◌≡◌, refl, ap}
use native.Mathlib.Omega.{arith}
use lib.Dec.{ltb, eqb-suc-zero}
use lib.IntN.{ℤ, pos}
use lib.ListN.{length, set, length-map}
use Rattle.names.specs.declared.Manner.{Manner}
use Rattle.names.specs.Read.{got, none, refused}
use Rattle.names.proofs.Local.{moved}
use Rattle.records.specs.Words.{record16, words_of, placed_at, Placed, head_words, item_record}
use Rattle.records.specs.declared.Item.{Item}
use Rattle.records.specs.declared.Item.TheVariants.{Years, Months, Dates, Weeks, Weekdays, Holidays, Times}
use Rattle.rules.specs.Rules.{Rule}
use Rattle.records.specs.declared.Head.{Head}
use Rattle.rules.proofs.Cut.{start_moves, head_moves, rule_moves}
use Rattle.items.proofs.Cut.{placed_moves}
use Rattle.text_rules.specs.Texts.{judged_rules, records, warnings}
use Rattle.sheet.specs.Sheets.{answer_of, refusal, judged_text, text_of}
use Rattle.demands.specs.Moved.{moved_word, has_comment, moved_record, moved_reading}
use Rattle.text_rules.proofs.Moves.{rules_move}
use Rattle.demands.proofs.Judged.{Rules, Numbered, number_positive, judged_number, judged_move}

-- ---- records

-- the words of a head that moves
head_moves_lem : (d : ℕ) (h : Head) → moved_record d (head_words h) ≡ head_words (head_moves d h)
unfolding moved_record head_words
head_moves_lem d h = go h.comment.length
  where
    words : ℕ → ℕ → ℕ → List ℤ
    words start l place = placed_at place (record16 (pos 1 ∷ pos h.separator ∷ pos h.state ∷ pos start ∷ pos l ∷ pos h.items ∷ []))

    go : (l : ℕ) → moved_record d (words h.comment.start l h.place) ≡ words (start_moves d l h.comment.start) l (d + h.place)
    go zero = refl
    go (suc l) = rw (eqb-suc-zero l)

-- an item is no head
no_comment_lem : (p : ℕ) (a : Item) → has_comment (placed_at p (words_of a)) ≡ false
unfolding words_of
no_comment_lem p (Years r) = refl
no_comment_lem p (Months r) = refl
no_comment_lem p (Dates r) = refl
no_comment_lem p (Weeks r) = refl
no_comment_lem p (Weekdays r) = refl
no_comment_lem p (Holidays r) = refl
no_comment_lem p (Times r) = refl

-- a word that is a place moves
place_moves : (k d p : ℕ) (ws : List ℤ) → moved_word k d (set ws k (pos p)) ≡ set ws k (pos (d + p))
place_moves k d p [] = refl
place_moves zero d p (w ∷ ws) = refl
place_moves (suc k) d p (w ∷ ws) = rw (place_moves k d p ws)

-- of an item's words its place moves
item_moves : (d p : ℕ) (a : Item) → moved_record d (item_record (a, p)) ≡ item_record (a, d + p)
unfolding moved_record item_record
item_moves d p a = rw (no_comment_lem p a) (place_moves 15 d p (words_of a))

-- of a list of items each one's does
items_move : (d : ℕ) (l : List Placed) → map (moved_record d) (map item_record l) ≡ map item_record (map (placed_moves d) l)
items_move d [] = refl
items_move d (a ∷ l) = rw (item_moves d a.1 a.0, items_move d l)

-- the records of rules that move
records_move : (d : ℕ) (l : List Rule) → records (map (rule_moves d) l) ≡ map (moved_record d) (records l)
unfolding records
records_move d [] = refl
records_move d (r ∷ l) = rw (records_move d l, map-append (moved_record d) (map item_record r.1) (records l), items_move d r.1, head_moves_lem d r.0)

-- and their warnings
warnings_move : (d : ℕ) (l : List Rule) → warnings (map (rule_moves d) l) ≡ warnings l
unfolding warnings
warnings_move d [] = refl
warnings_move d (r ∷ l) = ap (λ n. r.0.warnings + n) (warnings_move d l)

-- ---- answers

-- the move law of a reading
pub text_move : (m : Manner) (u s : List ℕ) (p n : ℕ) → text_of m (u ++ s) (length u + p) n ≡ moved_reading (length u) (text_of m s p n)
unfolding text_of
text_move m u s p n = rw (judged_move m u s p) (go (judged_rules m s p) (judged_number m s p))
  where
    stored_moves : (rs : List (List ℤ)) (w : ℕ) (full : Bool) → (if full then refusal 10 (length u + p) else (answer_of 0 0 (length rs) w, map (moved_record (length u)) rs))
        ≡ moved_reading (length u) (if full then refusal 10 p else (answer_of 0 0 (length rs) w, rs))
    stored_moves rs w true = refl
    stored_moves rs w false = refl

    go : (r : Rules) → Numbered m r → judged_text (length u + p) n (moved rules_move (length u) r) ≡ moved_reading (length u) (judged_text p n r)
    go (got l j) h =
        rw (records_move (length u) l.0, length-map (records l.0) (moved_record (length u)), warnings_move (length u) l.0)
        (stored_moves (records l.0) (warnings l.0) (ltb (n / 16) (length (records l.0))))
    go none h = refl
    go (refused zero q) h = absurd (omega (arith, number_positive m h))
    go (refused (suc k) q) h = rw (eqb-suc-zero k)
