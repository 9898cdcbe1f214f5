-- Records, word by word.
use Prim.Native.Nat.{ℕ, ◌≤◌}
use native.Mathlib.Omega.{arith}
use mathlib.Core.List.{List, [], ◌∷◌}
use mathlib.Core.Bool.{true}
use mathlib.Core.Path.{◌≡◌, refl, ap}
use lib.IntN.{ℤ, pos}
use lib.ListN.{length, replicate, length-append, length-replicate}
use Rattle.records.specs.Words.{record16, day_words, time_words, item_words, words_of, placed_at, head_words}
use Rattle.records.specs.declared.Day.{Day}
use Rattle.records.specs.declared.Day.TheVariants.{Fixed, Weekday, Easter}
use Rattle.records.specs.declared.Time.{Time}
use Rattle.records.specs.declared.Time.TheVariants as time
use Rattle.records.specs.declared.Head.{Head}
use Rattle.records.specs.declared.Item.{Item}
use Rattle.records.specs.declared.Item.TheVariants.{Years, Months, Dates, Weeks, Weekdays, Holidays, Times}
use Rattle.records.specs.Ranges.{exactly, up}
use Rattle.records.specs.Fits.{word_at, passes, unused, date_fits, time_fits, item_fits}
use Rattle.records.proofs.Tests.{both}
use Rattle.records.proofs.WordLaws.{exactly_is}

-- a record of sixteen words
pub sixteen : (P : List ℤ → Type 0) → ((x0 x1 x2 x3 x4 x5 x6 x7 x8 x9 x10 x11 x12 x13 x14 x15 : ℤ) → P (x0 ∷ x1 ∷ x2 ∷ x3 ∷ x4 ∷ x5 ∷ x6 ∷ x7 ∷ x8 ∷ x9 ∷ x10 ∷ x11 ∷ x12 ∷ x13 ∷ x14 ∷ x15 ∷ [])) → (w : List ℤ) → length w ≡ 16 → P w
sixteen P f ([]) l = absurd (omega arith)
sixteen P f (x0 ∷ []) l = absurd (omega arith)
sixteen P f (x0 ∷ x1 ∷ []) l = absurd (omega arith)
sixteen P f (x0 ∷ x1 ∷ x2 ∷ []) l = absurd (omega arith)
sixteen P f (x0 ∷ x1 ∷ x2 ∷ x3 ∷ []) l = absurd (omega arith)
sixteen P f (x0 ∷ x1 ∷ x2 ∷ x3 ∷ x4 ∷ []) l = absurd (omega arith)
sixteen P f (x0 ∷ x1 ∷ x2 ∷ x3 ∷ x4 ∷ x5 ∷ []) l = absurd (omega arith)
sixteen P f (x0 ∷ x1 ∷ x2 ∷ x3 ∷ x4 ∷ x5 ∷ x6 ∷ []) l = absurd (omega arith)
sixteen P f (x0 ∷ x1 ∷ x2 ∷ x3 ∷ x4 ∷ x5 ∷ x6 ∷ x7 ∷ []) l = absurd (omega arith)
sixteen P f (x0 ∷ x1 ∷ x2 ∷ x3 ∷ x4 ∷ x5 ∷ x6 ∷ x7 ∷ x8 ∷ []) l = absurd (omega arith)
sixteen P f (x0 ∷ x1 ∷ x2 ∷ x3 ∷ x4 ∷ x5 ∷ x6 ∷ x7 ∷ x8 ∷ x9 ∷ []) l = absurd (omega arith)
sixteen P f (x0 ∷ x1 ∷ x2 ∷ x3 ∷ x4 ∷ x5 ∷ x6 ∷ x7 ∷ x8 ∷ x9 ∷ x10 ∷ []) l = absurd (omega arith)
sixteen P f (x0 ∷ x1 ∷ x2 ∷ x3 ∷ x4 ∷ x5 ∷ x6 ∷ x7 ∷ x8 ∷ x9 ∷ x10 ∷ x11 ∷ []) l = absurd (omega arith)
sixteen P f (x0 ∷ x1 ∷ x2 ∷ x3 ∷ x4 ∷ x5 ∷ x6 ∷ x7 ∷ x8 ∷ x9 ∷ x10 ∷ x11 ∷ x12 ∷ []) l = absurd (omega arith)
sixteen P f (x0 ∷ x1 ∷ x2 ∷ x3 ∷ x4 ∷ x5 ∷ x6 ∷ x7 ∷ x8 ∷ x9 ∷ x10 ∷ x11 ∷ x12 ∷ x13 ∷ []) l = absurd (omega arith)
sixteen P f (x0 ∷ x1 ∷ x2 ∷ x3 ∷ x4 ∷ x5 ∷ x6 ∷ x7 ∷ x8 ∷ x9 ∷ x10 ∷ x11 ∷ x12 ∷ x13 ∷ x14 ∷ []) l = absurd (omega arith)
sixteen P f (x0 ∷ x1 ∷ x2 ∷ x3 ∷ x4 ∷ x5 ∷ x6 ∷ x7 ∷ x8 ∷ x9 ∷ x10 ∷ x11 ∷ x12 ∷ x13 ∷ x14 ∷ x15 ∷ []) l = f x0 x1 x2 x3 x4 x5 x6 x7 x8 x9 x10 x11 x12 x13 x14 x15
sixteen P f (x0 ∷ x1 ∷ x2 ∷ x3 ∷ x4 ∷ x5 ∷ x6 ∷ x7 ∷ x8 ∷ x9 ∷ x10 ∷ x11 ∷ x12 ∷ x13 ∷ x14 ∷ x15 ∷ y ∷ ys) l = absurd (omega arith)

-- words without the last
unfoldable pub cleared : List ℤ → List ℤ
cleared [] = []
cleared (x ∷ []) = pos 0 ∷ []
cleared (x ∷ y ∷ ys) = x ∷ cleared (y ∷ ys)

pub placed_cleared : (w : List ℤ) → length w ≡ 16 → placed_at 0 w ≡ cleared w
unfolding cleared
placed_cleared = sixteen (λ w. placed_at 0 w ≡ cleared w) (λ x0 x1 x2 x3 x4 x5 x6 x7 x8 x9 x10 x11 x12 x13 x14 x15. refl)

-- unused words are 0
pub unused_zeros : (xs : List ℤ) → unused xs ≡ true → replicate (length xs) (pos 0) ≡ cleared xs
unfolding unused cleared
unused_zeros [] e = refl
unused_zeros (x ∷ []) e = refl
unused_zeros (x ∷ y ∷ ys) e = let b = both (exactly 0 x) e in let z : x ≡ pos 0 = exactly_is 0 x b.0 in let r : replicate (length (y ∷ ys)) (pos 0) ≡ cleared (y ∷ ys) = unused_zeros (y ∷ ys) b.1 in rw z (ap (λ (l : List ℤ). pos 0 ∷ l) r)

-- the place is not looked at
pub fits_placed : (p : ℕ) (w : List ℤ) → length w ≡ 16 → up (word_at w 15) ≡ true → item_fits (placed_at p w) ≡ item_fits w
unfolding item_fits passes unused date_fits time_fits
fits_placed p = sixteen (λ w. up (word_at w 15) ≡ true → item_fits (placed_at p w) ≡ item_fits w) (λ x0 x1 x2 x3 x4 x5 x6 x7 x8 x9 x10 x11 x12 x13 x14 x15 e. rw e)

-- ---- an item has 16 words

-- words and zeros
filled_up : (ws : List ℤ) → length ws ≤ 16 → length (record16 ws) ≡ 16
filled_up ws h = simp (length-append, length-replicate) (omega arith)

-- a day's words
day_words_lem : (y : ℕ) (d : Day) → length (day_words y d) ≡ 5
day_words_lem y (Fixed m d) = refl
day_words_lem y (Weekday m w n) = refl
day_words_lem y Easter = refl

-- a time's
time_words_lem : (t : Time) → length (time_words t) ≡ 2
time_words_lem (time.Fixed m) = refl
time_words_lem (time.Dawn m) = refl
time_words_lem (time.Sunrise m) = refl
time_words_lem (time.Sunset m) = refl
time_words_lem (time.Dusk m) = refl

-- an item's
item_words_lem : (a : Item) → length (item_words a) ≤ 16
item_words_lem (Years r) = omega arith
item_words_lem (Months r) = omega arith
item_words_lem (Dates r) = simp length-append (omega (arith, day_words_lem r.start.year r.start.day, day_words_lem r.end.year r.end.day))
item_words_lem (Weeks r) = omega arith
item_words_lem (Weekdays r) = omega arith
item_words_lem (Holidays r) = omega arith
item_words_lem (Times r) = simp length-append (omega (arith, time_words_lem r.start, time_words_lem r.end))

-- those of a list of items
pub item_sixteen : (a : Item) → length (words_of a) ≡ 16
unfolding words_of
item_sixteen a = filled_up (item_words a) (item_words_lem a)

-- a head has 16 words
pub head_sixteen : (h : Head) → length (head_words h) ≡ 16
unfolding head_words
head_sixteen h = refl
