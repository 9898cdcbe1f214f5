-- What was written is read back as it was, and what is read has just these words. No name of what is read calls for a warning.
use Rattle.std.specs.Prelude.{Option, Some, None, if◌then◌else◌}
use Prim.Native.Nat.{ℕ, zero, suc, ◌+◌, ◌≤◌}
use native.Mathlib.Omega.{arith}
use mathlib.Core.List.{List, [], ◌∷◌, ◌++◌}
use mathlib.Core.Bool.{Bool, true, false, ◌&&◌}
use mathlib.Core.Path.{◌≡◌, refl, sym, ap, ◌∙◌}
use lib.IntN.{ℤ, pos}
use lib.Signed.{non_neg}
use lib.ListN.{length, drop}
use Rattle.records.specs.Ranges as ranges
use Rattle.records.specs.Ranges.{between, from, exactly, up}
use Rattle.records.specs.Fits.{word_at, passes, unused, is_kind, head_fits, years_fit, months_fit, date_fits, dates_fit, weeks_fit, weekdays_fit, holidays_fit, time_fits, times_fit, item_fits}
use Rattle.records.specs.Told.{within, byte_at, number_at, head_at, placed, item_in, record_in, quiet, quiet_head}
use Rattle.records.specs.Words.{record16, day_words, time_words, repeat_word, bit, words_of, placed_at, head_words, item_record}
use Rattle.records.specs.declared.Day.{Day}
use Rattle.records.specs.declared.Day.TheVariants.{Fixed, Weekday, Easter}
use Rattle.records.specs.declared.Time.{Time}
use Rattle.records.specs.declared.Time.TheVariants as time
use Rattle.records.specs.declared.Head.{Head}
use Rattle.records.specs.declared.Item.{Item}
use Rattle.records.specs.declared.Item.TheVariants.{Years, Months, Dates, Weeks, Weekdays, Holidays, Times}
use Rattle.records.specs.declared.Record.TheVariants as tells
use Rattle.records.proofs.Tests.{both}
use Rattle.records.proofs.WordLaws.{from_in, number_at_lem, unused_more, unused_last, count_at}
use Rattle.records.proofs.Sixteen.{sixteen, cleared, placed_cleared, item_sixteen}
use Rattle.records.proofs.Back.{then_word, then_unused, first_word}
use Rattle.records.proofs.Items.{item_told, told_fits, told_words}

-- ---- places

-- the later place stays
pub placed_twice : (p q : ℕ) (w : List ℤ) → length w ≡ 16 → placed_at q (placed_at p w) ≡ placed_at q w
placed_twice p q = sixteen (λ w. placed_at q (placed_at p w) ≡ placed_at q w) (λ x0 x1 x2 x3 x4 x5 x6 x7 x8 x9 x10 x11 x12 x13 x14 x15. refl)

-- a record has the place that it has
own_place : (w : List ℤ) → length w ≡ 16 → non_neg (word_at w 15) ≡ true → placed_at (number_at w 15) w ≡ w
own_place =
    sixteen
    (λ w. non_neg (word_at w 15) ≡ true → placed_at (number_at w 15) w ≡ w)
    (λ x0 x1 x2 x3 x4 x5 x6 x7 x8 x9 x10 x11 x12 x13 x14 x15 e. rw (count_at x15 e))

-- ---- what was written is read

-- the words of a day, and of a time
five : (P : List ℤ → Type 0) → ((a b c d e : ℤ) → P (a ∷ b ∷ c ∷ d ∷ e ∷ [])) → (y : ℕ) (d : Day) → P (day_words y d)
five P f y (Fixed m d) = f _ _ _ _ _
five P f y (Weekday m w n) = f _ _ _ _ _
five P f y Easter = f _ _ _ _ _

two : (P : List ℤ → Type 0) → ((a b : ℤ) → P (a ∷ b ∷ [])) → (t : Time) → P (time_words t)
two P f (time.Fixed m) = f _ _
two P f (time.Dawn m) = f _ _
two P f (time.Sunrise m) = f _ _
two P f (time.Sunset m) = f _ _
two P f (time.Dusk m) = f _ _

-- an item's words have place 0, and its kind is not a head's
abbrev Itself : List ℤ → Type 0
Itself ws = (placed_at 0 (record16 ws) ≡ record16 ws) × ((p : ℕ) → is_kind 1 (placed_at p (record16 ws)) ≡ false)

itself : (a : Item) → (placed_at 0 (words_of a) ≡ words_of a) × ((p : ℕ) → is_kind 1 (placed_at p (words_of a)) ≡ false)
unfolding words_of between
itself (Years r) = (refl, λ p. refl)
itself (Months r) = (refl, λ p. refl)
itself (Dates r) =
    five (λ u. Itself (pos 4 ∷ (u ++ (r.start_offset.wday ∷ r.start_offset.days ∷ [])) ++ (day_words r.end.year r.end.day ++ (r.end_offset.wday ∷ r.end_offset.days ∷ []))))
    (λ a b c d e.
    five (λ v. Itself (pos 4 ∷ ((a ∷ b ∷ c ∷ d ∷ e ∷ []) ++ (r.start_offset.wday ∷ r.start_offset.days ∷ [])) ++ (v ++ (r.end_offset.wday ∷ r.end_offset.days ∷ []))))
    (λ f g h i j. (refl, λ p. refl)) r.end.year r.end.day) r.start.year r.start.day
itself (Weeks r) = (refl, λ p. refl)
itself (Weekdays r) = (refl, λ p. refl)
itself (Holidays r) = (refl, λ p. refl)
itself (Times r) =
    let w : List ℤ = repeat_word r.repeats ∷ bit r.open_end ∷ bit r.point ∷ [] in
    two (λ u. Itself (pos 8 ∷ ((u ++ time_words r.end) ++ w))) (λ a b. two (λ v. Itself (pos 8 ∷ (((a ∷ b ∷ []) ++ v) ++ w))) (λ c d. (refl, λ p. refl)) r.end) r.start

-- a head
head_kind : exactly 1 (pos 1) ≡ true
unfolding between
head_kind = refl

pub head_back : (h : Head) → h.separator ≤ 2 → h.state ≤ 2 → record_in (head_words h) ≡ Some (tells.Head (quiet_head h))
unfolding record_in head_words head_fits passes unused head_at within
head_back h e f =
    rw (
      head_kind,
      from_in 2 (pos h.separator) refl e,
      from_in 2 (pos h.state) refl f,
      from_in 0 (pos 0) refl (omega arith),
      from_in 255 (pos h.separator) refl (omega arith),
      from_in 255 (pos h.state) refl (omega arith),
    )

-- an item at a place, if it is in range
place_of : (p : ℕ) (w : List ℤ) → length w ≡ 16 → (length (placed_at p w) ≡ 16) × (number_at (placed_at p w) 15 ≡ p)
place_of p =
    sixteen (λ w. (length (placed_at p w) ≡ 16) × (number_at (placed_at p w) 15 ≡ p)) (λ x0 x1 x2 x3 x4 x5 x6 x7 x8 x9 x10 x11 x12 x13 x14 x15. (refl, refl))

pub item_back : (a : Item) (p : ℕ) → item_fits (item_record (a, p)) ≡ true → record_in (item_record (a, p)) ≡ Some (tells.Item (quiet a) p)
unfolding record_in item_record
item_back a p e =
    let w : List ℤ = placed_at p (words_of a) in
    let o = place_of p (words_of a) (item_sixteen a) in
    let t = item_told w a o.0 e (placed_twice p 0 (words_of a) (item_sixteen a) ∙ (itself a).0) in
    rw ((itself a).1 p, t, o.1)

-- ---- what is read has these words

-- the last word of a record that fits is from 0 up
unused_up : (w : List ℤ) (n k : ℕ) → length w ≡ 16 → k + n ≡ 15 → unused (drop k w) ≡ true → non_neg (word_at w 15) ≡ true
unused_up w zero k l h e = let k15 : k ≡ 15 = omega arith in sym (unused_last w l) ∙ rw k15 at e
unused_up w (suc n) k l h e =
    unused_up w n (k + 1) l (omega arith) (both (exactly 0 (word_at w k)) (sym (unused_more w k l (omega arith)) ∙ e)).1

head_up : (w : List ℤ) → length w ≡ 16 → head_fits w ≡ true → non_neg (word_at w 15) ≡ true
unfolding head_fits
head_up w l e = unused_up w 9 6 l refl (both (passes ranges.head 1 w) e).1

item_up : (w : List ℤ) → length w ≡ 16 → item_fits w ≡ true → non_neg (word_at w 15) ≡ true
unfolding item_fits
item_up w l e = go (is_kind 2 w) (is_kind 3 w) (is_kind 4 w) (is_kind 5 w) (is_kind 6 w) (is_kind 7 w) e
  where
    go : (a b c d f g : Bool) →
        (if a then years_fit w else if b then months_fit w else if c then dates_fit w else if d then weeks_fit w else if f then weekdays_fit w else if g then holidays_fit w else is_kind 8 w && times_fit w) ≡ true →
        non_neg (word_at w 15) ≡ true
    go true b c d f g e = unused_up w 11 4 l refl (both (passes ranges.years 1 w) e).1
    go false true c d f g e = unused_up w 11 4 l refl (both (passes ranges.months 1 w) e).1
    go false false true d f g e = unused_up w 0 15 l refl (both (date_fits (pos 10000) 8 w) (both (date_fits (pos 9999) 1 w) e).1).1
    go false false false true f g e = unused_up w 11 4 l refl (both (passes ranges.weeks 1 w) e).1
    go false false false false true g e = unused_up w 9 6 l refl (both (passes ranges.weekdays 1 w) e).1
    go false false false false false true e = unused_up w 12 3 l refl (both (passes ranges.holidays 1 w) e).1
    go false false false false false false e =
        unused_up w 7 8 l refl (both (passes ranges.tail 5 w) (both (time_fits (pos 2880) 3 w) (both (time_fits (pos 1440) 1 w) (both (is_kind 8 w) e).1).1).1).1

-- a head's words
head_words_lem : (w : List ℤ) → length w ≡ 16 → is_kind 1 w ≡ true → head_fits w ≡ true → head_words (head_at w) ≡ w
unfolding head_words head_at head_fits passes
head_words_lem w l i e =
    let b = both (passes ranges.head 1 w) e in
    let p1 = both (from 0 2 (word_at w 1)) b.0 in
    let p2 = both (from 0 2 (word_at w 2)) p1.1 in
    let p3 = both (up (word_at w 3)) p2.1 in
    let p4 = both (up (word_at w 4)) p3.1 in
    let p5 = both (up (word_at w 5)) p4.1 in
    let ws : record16 (pos 1 ∷ pos (byte_at w 1) ∷ pos (byte_at w 2) ∷ pos (number_at w 3) ∷ pos (number_at w 4) ∷ pos (number_at w 5) ∷ []) ≡ cleared w =
    then_word w l 0 (omega arith) (first_word w l 1 i)
    (then_word w l 1 (omega arith) (number_at_lem 0 2 255 w 1 p1.0 (omega arith))
    (then_word w l 2 (omega arith) (number_at_lem 0 2 255 w 2 p2.0 (omega arith))
    (then_word w l 3 (omega arith) (count_at (word_at w 3) p3.0)
    (then_word w l 4 (omega arith) (count_at (word_at w 4) p4.0)
    (then_word w l 5 (omega arith) (count_at (word_at w 5) p5.0) (then_unused w l 6 10 refl b.1)))))) in
    ap (placed_at (number_at w 15)) (ws ∙ sym (placed_cleared w l)) ∙ placed_twice 0 (number_at w 15) w l ∙ own_place w l (head_up w l e)

-- a record that tells a head is its
pub head_read : (w : List ℤ) (h : Head) → length w ≡ 16 → record_in w ≡ Some (tells.Head h) → head_words h ≡ w
unfolding record_in
head_read w h l e = go (is_kind 1 w && head_fits w) refl e
  where
    none_told : (o : Option Item) (n : ℕ) → placed o n ≡ Some (tells.Head h) → ⊥
    none_told (Some a) n q = let z : ◌≡◌ {A = ℕ} 0 1 = cc in omega arith
    none_told None n q = let z : ◌≡◌ {A = ℕ} 0 1 = cc in omega arith

    go : (t : Bool) → (is_kind 1 w && head_fits w) ≡ t → (if t then Some (tells.Head (head_at w)) else placed (item_in w) (number_at w 15)) ≡ Some (tells.Head h) → head_words h ≡ w
    go true p q = let b = both (is_kind 1 w) p in let z : head_at w ≡ h = cc in rw z at (head_words_lem w l b.0 b.1)
    go false p q = absurd (none_told (item_in w) (number_at w 15) q)

-- a record that tells an item at a place is its
pub item_read : (w : List ℤ) (a : Item) (p : ℕ) → length w ≡ 16 → record_in w ≡ Some (tells.Item a p) → item_record (a, p) ≡ w
unfolding record_in item_record
item_read w a p l e = go (is_kind 1 w && head_fits w) (item_in w) refl e
  where
    go : (t : Bool) (o : Option Item) → item_in w ≡ o → (if t then Some (tells.Head (head_at w)) else placed o (number_at w 15)) ≡ Some (tells.Item a p) → placed_at p (words_of a) ≡ w
    go true o q r = let z : ◌≡◌ {A = ℕ} 0 1 = cc in absurd (omega arith)
    go false None q r = let z : ◌≡◌ {A = ℕ} 0 1 = cc in absurd (omega arith)
    go false (Some b) q r =
        let x : b ≡ a = cc in
        let y : number_at w 15 ≡ p = cc in
        let u = (told_words w b l q).0 in
        let v : placed_at (number_at w 15) (words_of b) ≡ w =
        ap (placed_at (number_at w 15)) u ∙ placed_twice 0 (number_at w 15) w l ∙ own_place w l (item_up w l (told_fits w b q).0) in
        rw (x, y) at v
