-- A record that fits has the words of its item.
use Rattle.std.specs.Prelude.{Some, None, if◌then◌else◌}
use Prim.Native.Nat.{ℕ, zero, suc, ◌+◌, ◌<◌, ◌≤◌}
use native.Mathlib.Omega.{arith}
use native.Mathlib.Numerals.{towards_suc}
use mathlib.Core.List.{List, [], ◌∷◌}
use mathlib.Core.Bool.{Bool, true, false, ◌&&◌, ◌||◌}
use mathlib.Core.Path.{◌≡◌, refl, sym, ap, ◌∙◌}
use borrow.Author.Tests.{leb-true, le-leb}
use lib.Dec.{leb}
use lib.IntN.{ℤ, pos, negsuc, nat_abs}
use lib.Signed.{non_neg, le_z}
use lib.ListN.{length, drop, replicate, length-drop}
use lib.Seq.{drop-cons}
use Rattle.records.specs.Words.{date_words, time_words, repeat_word, bit, words_of, placed_at}
use Rattle.records.specs.Ranges as ranges
use Rattle.records.specs.Ranges.{Range, between, from, exactly, about, year, nth}
use Rattle.records.specs.Fits.{word_at, passes, unused, is_kind, date_fits, time_fits, years_fit, months_fit, dates_fit, weeks_fit, weekdays_fit, holidays_fit, times_fit, item_fits}
use Rattle.records.specs.Told.{within, signed_at, repeat, day_at, date_at, offset_at, time_at, repeat_at, years_in, months_in, dates_in, weeks_in, weekdays_in, holidays_in, times_in, candidate}
use Rattle.records.proofs.Tests.{both, either}
use Rattle.records.proofs.WordLaws.{from_is, exactly_is, number_at_lem, year_at, signed_at_lem, nth_at}
use Rattle.records.proofs.Sixteen.{cleared, placed_cleared, unused_zeros}

-- the seven words of a date, the two of a time
abbrev seven : List ℤ → ℕ → List ℤ
seven w k = word_at w k ∷ word_at w (k + 1) ∷ word_at w (k + 2) ∷ word_at w (k + 3) ∷ word_at w (k + 4) ∷ word_at w (k + 5) ∷ word_at w (k + 6) ∷ []

-- what a row of seven ranges says
abbrev Seven : (a b c d e f g : Range) → List ℤ → ℕ → Type 0
Seven a b c d e f g w k =
    (a (word_at w k) ≡ true) × (b (word_at w (k + 1)) ≡ true) × (c (word_at w (k + 2)) ≡ true) × (d (word_at w (k + 3)) ≡ true) × (e (word_at w (k + 4)) ≡ true) × (f (word_at w (k + 5)) ≡ true) × (g (word_at w (k + 6)) ≡ true)

seven_pass : (a b c d e f g : Range) (w : List ℤ) (k : ℕ) → passes (a ∷ b ∷ c ∷ d ∷ e ∷ f ∷ g ∷ []) k w ≡ true → Seven a b c d e f g w k
unfolding passes
seven_pass a b c d e f g w k h =
    let p0 = both (a (word_at w k)) h in
    let p1 = both (b (word_at w (suc k))) p0.1 in
    let p2 = both (c (word_at w (suc (suc k)))) p1.1 in
    let p3 = both (d (word_at w (suc (suc (suc k))))) p2.1 in
    let p4 = both (e (word_at w (suc (suc (suc (suc k)))))) p3.1 in
    let p5 = both (f (word_at w (suc (suc (suc (suc (suc k))))))) p4.1 in
    let p6 = both (g (word_at w (suc (suc (suc (suc (suc (suc k)))))))) p5.1 in
    (p0.0, simp towards_suc p1.0, simp towards_suc p2.0, simp towards_suc p3.0, simp towards_suc p4.0, simp towards_suc p5.0, simp towards_suc p6.0)

module _ (w : List ℤ) (k : ℕ) where
  fixed_words : (last : ℕ) → last ≤ 65535 → passes (ranges.fixed (pos last)) k w ≡ true → date_words (date_at w k) (offset_at w k) ≡ seven w k
  unfolding date_at day_at offset_at
  fixed_words last h e =
      let q = seven_pass (exactly 1) (year (pos last)) (from 1 12) (from 1 31) (exactly 0) (about 7) (about 32767) w k e in
      rw (q.0, year_at last w (k + 1) q.1 h, number_at_lem 1 12 255 w (k + 2) q.2 (omega arith), number_at_lem 1 31 255 w (k + 3) q.3 (omega arith), signed_at_lem 7 w (k + 5) q.5 (omega arith), signed_at_lem 32767 w (k + 6) q.6 (omega arith), exactly_is 1 (word_at w k) q.0, exactly_is 0 (word_at w (k + 4)) q.4)

  weekday_words : passes ranges.weekday k w ≡ true → date_words (date_at w k) (offset_at w k) ≡ seven w k
  unfolding date_at day_at offset_at between
  weekday_words e =
      let q = seven_pass (exactly 2) (year (pos 9999)) (from 1 12) (from 1 7) nth (about 7) (about 32767) w k e in
      rw (exactly_is 2 (word_at w k) q.0, year_at 9999 w (k + 1) q.1 (omega arith), signed_at_lem 7 w (k + 5) q.5 (omega arith), signed_at_lem 32767 w (k + 6) q.6 (omega arith), number_at_lem 1 12 255 w (k + 2) q.2 (omega arith), number_at_lem 1 7 255 w (k + 3) q.3 (omega arith), nth_at w (k + 4) q.4)

  easter_words : passes ranges.easter k w ≡ true → date_words (date_at w k) (offset_at w k) ≡ seven w k
  unfolding date_at day_at offset_at between
  easter_words e =
      let q = seven_pass (exactly 3) (year (pos 9999)) (exactly 0) (exactly 0) (exactly 0) (about 7) (about 32767) w k e in
      rw (exactly_is 3 (word_at w k) q.0, year_at 9999 w (k + 1) q.1 (omega arith), signed_at_lem 7 w (k + 5) q.5 (omega arith), signed_at_lem 32767 w (k + 6) q.6 (omega arith), exactly_is 0 (word_at w (k + 2)) q.2, exactly_is 0 (word_at w (k + 3)) q.3, exactly_is 0 (word_at w (k + 4)) q.4)

  date_words_lem : (last : ℕ) → last ≤ 65535 → date_fits (pos last) k w ≡ true → date_words (date_at w k) (offset_at w k) ≡ seven w k
  unfolding date_fits
  date_words_lem last h e = either _ (passes (ranges.fixed (pos last)) k w) (passes ranges.weekday k w || passes ranges.easter k w) e (fixed_words last h) (λ f. either _ (passes ranges.weekday k w) (passes ranges.easter k w) f weekday_words easter_words)

module _ (w : List ℤ) (k : ℕ) where
  clock_words : (last : ℕ) → last ≤ 65535 → passes (ranges.clock (pos last)) k w ≡ true → time_words (time_at w k) ≡ word_at w k ∷ word_at w (k + 1) ∷ []
  unfolding passes time_at
  clock_words last h e =
      let p0 = both (exactly 0 (word_at w k)) e in
      let p1 : from 0 last (word_at w (k + 1)) ≡ true = simp towards_suc (both (from 0 last (word_at w (suc k))) p0.1).0 in
      rw (p0.0, number_at_lem 0 last 65535 w (k + 1) p1 h, exactly_is 0 (word_at w k) p0.0)

  event_by : (n : ℕ) → word_at w k ≡ pos n → 1 ≤ n → n ≤ 4 → signed_at w (k + 1) ≡ word_at w (k + 1) → time_words (time_at w k) ≡ word_at w k ∷ word_at w (k + 1) ∷ []
  unfolding time_at between
  event_by zero e a b f = absurd (omega arith)
  event_by (suc zero) e a b f = rw (e, f)
  event_by (suc (suc zero)) e a b f = rw (e, f)
  event_by (suc (suc (suc zero))) e a b f = rw (e, f)
  event_by (suc (suc (suc (suc zero)))) e a b f = rw (e, f)
  event_by (suc (suc (suc (suc (suc n))))) e a b f = absurd (omega arith)

  event_words : passes ranges.event k w ≡ true → time_words (time_at w k) ≡ word_at w k ∷ word_at w (k + 1) ∷ []
  unfolding passes time_at between
  event_words e =
      let p0 = both (from 1 4 (word_at w k)) e in
      let p1 : about 1440 (word_at w (k + 1)) ≡ true = simp towards_suc (both (about 1440 (word_at w (suc k))) p0.1).0 in
      let q = from_is 1 4 (word_at w k) p0.0 in
      event_by (nat_abs (word_at w k)) q.0 q.1.0 q.1.1 (signed_at_lem 1440 w (k + 1) p1 (omega arith))

  time_words_lem : (last : ℕ) → last ≤ 65535 → time_fits (pos last) k w ≡ true → time_words (time_at w k) ≡ word_at w k ∷ word_at w (k + 1) ∷ []
  unfolding time_fits
  time_words_lem last h e = either _ (passes (ranges.clock (pos last)) k w) (passes ranges.event k w) e (clock_words last h) event_words

repeat_word_lem : (w : List ℤ) (k : ℕ) → between (negsuc 0) (pos 1439) (word_at w k) ≡ true → repeat_word (repeat_at w k) ≡ word_at w k
unfolding repeat within between
repeat_word_lem w k e = go (word_at w k) e
  where
    go : (x : ℤ) → (le_z (negsuc 0) x && le_z x (pos 1439)) ≡ true → repeat_word (if non_neg x then Some (if le_z (pos 0) x && le_z x (pos 65535) then nat_abs x else 0) else None) ≡ x
    go (pos n) e = rw (le-leb 0 n (omega arith), le-leb n 65535 (omega (arith, leb-true n 1439 e)))
    go (negsuc zero) e = refl
    go (negsuc (suc n)) e = absurd (omega (arith, leb-true (suc n) 0 (both (leb (suc n) 0) e).0))

bit_word : (w : List ℤ) (k : ℕ) → from 0 1 (word_at w k) ≡ true → bit (exactly 1 (word_at w k)) ≡ word_at w k
unfolding between
bit_word w k e = let q = from_is 0 1 (word_at w k) e in go (nat_abs (word_at w k)) q.0 q.1.1
  where
    go : (n : ℕ) → word_at w k ≡ pos n → n ≤ 1 → bit (exactly 1 (word_at w k)) ≡ word_at w k
    go zero e h = rw e
    go (suc zero) e h = rw e
    go (suc (suc n)) e h = absurd (omega arith)

-- ---- sixteen words, the place aside

module _ (w : List ℤ) (l : length w ≡ 16) where
  pub then_word : (k : ℕ) → k < 15 → {x : ℤ} {xs : List ℤ} → x ≡ word_at w k → xs ≡ cleared (drop (suc k) w) → x ∷ xs ≡ cleared (drop k w)
  unfolding cleared
  then_word k h e f =
      let a : k < length w = omega arith in
      let b : suc k < length w = omega arith in
      rw (e, f, drop-cons w k (pos 0) a, drop-cons w (suc k) (pos 0) b)

  pub then_unused : (k n : ℕ) → k + n ≡ 16 → unused (drop k w) ≡ true → replicate n (pos 0) ≡ cleared (drop k w)
  then_unused k n h e = let m : n ≡ length (drop k w) = simp length-drop (omega arith) in ap (λ j. replicate j (pos 0)) m ∙ unused_zeros (drop k w) e

  pub first_word : (n : ℕ) → is_kind n w ≡ true → pos n ≡ word_at w 0
  first_word n e = sym (exactly_is n (word_at w 0) e)

  three_words : (kind : ℕ) → is_kind kind w ≡ true → {x y z : ℤ} → x ≡ word_at w 1 → y ≡ word_at w 2 → z ≡ word_at w 3 → unused (drop 4 w) ≡ true → pos kind ∷ x ∷ y ∷ z ∷ replicate 12 (pos 0) ≡ cleared w
  three_words kind i e f g u = then_word 0 (omega arith) (first_word kind i) (then_word 1 (omega arith) e (then_word 2 (omega arith) f (then_word 3 (omega arith) g (then_unused 4 12 refl u))))

  years_words : is_kind 2 w ≡ true → years_fit w ≡ true → words_of (years_in w) ≡ cleared w
  unfolding words_of passes
  years_words i e =
      let b = both (passes ranges.years 1 w) e in
      let p1 = both (from 1900 9999 (word_at w 1)) b.0 in
      let p2 = both (from 1900 9999 (word_at w 2)) p1.1 in
      let p3 = both (from 0 32767 (word_at w 3)) p2.1 in
      three_words 2 i (number_at_lem 1900 9999 65535 w 1 p1.0 (omega arith)) (number_at_lem 1900 9999 65535 w 2 p2.0 (omega arith)) (number_at_lem 0 32767 65535 w 3 p3.0 (omega arith)) b.1

  months_words : is_kind 3 w ≡ true → months_fit w ≡ true → words_of (months_in w) ≡ cleared w
  unfolding words_of passes
  months_words i e =
      let b = both (passes ranges.months 1 w) e in
      let p1 = both (year (pos 9999) (word_at w 1)) b.0 in
      let p2 = both (from 1 12 (word_at w 2)) p1.1 in
      let p3 = both (from 1 12 (word_at w 3)) p2.1 in
      three_words 3 i (year_at 9999 w 1 p1.0 (omega arith)) (number_at_lem 1 12 255 w 2 p2.0 (omega arith)) (number_at_lem 1 12 255 w 3 p3.0 (omega arith)) b.1

  weeks_words : is_kind 5 w ≡ true → weeks_fit w ≡ true → words_of (weeks_in w) ≡ cleared w
  unfolding words_of passes
  weeks_words i e =
      let b = both (passes ranges.weeks 1 w) e in
      let p1 = both (from 1 53 (word_at w 1)) b.0 in
      let p2 = both (from 1 53 (word_at w 2)) p1.1 in
      let p3 = both (from 0 255 (word_at w 3)) p2.1 in
      three_words 5 i (number_at_lem 1 53 65535 w 1 p1.0 (omega arith)) (number_at_lem 1 53 65535 w 2 p2.0 (omega arith)) (number_at_lem 0 255 65535 w 3 p3.0 (omega arith)) b.1

  weekdays_words : is_kind 6 w ≡ true → weekdays_fit w ≡ true → words_of (weekdays_in w) ≡ cleared w
  unfolding words_of passes
  weekdays_words i e =
      let b = both (passes ranges.weekdays 1 w) e in
      let p1 = both (from 1 7 (word_at w 1)) b.0 in
      let p2 = both (from 1 7 (word_at w 2)) p1.1 in
      let p3 = both (about 32767 (word_at w 3)) p2.1 in
      let p4 = both (from 0 31 (word_at w 4)) p3.1 in
      let p5 = both (from 0 31 (word_at w 5)) p4.1 in
      then_word 0 (omega arith) (first_word 6 i)
      (then_word 1 (omega arith) (number_at_lem 1 7 255 w 1 p1.0 (omega arith))
      (then_word 2 (omega arith) (number_at_lem 1 7 255 w 2 p2.0 (omega arith))
      (then_word 3 (omega arith) (signed_at_lem 32767 w 3 p3.0 (omega arith))
      (then_word 4 (omega arith) (number_at_lem 0 31 255 w 4 p4.0 (omega arith))
      (then_word 5 (omega arith) (number_at_lem 0 31 255 w 5 p5.0 (omega arith)) (then_unused 6 10 refl b.1))))))

  holidays_words : is_kind 7 w ≡ true → holidays_fit w ≡ true → words_of (holidays_in w) ≡ cleared w
  unfolding words_of passes
  holidays_words i e =
      let b = both (passes ranges.holidays 1 w) e in
      let p1 = both (from 1 2 (word_at w 1)) b.0 in
      let p2 = both (about 32767 (word_at w 2)) p1.1 in
      then_word 0 (omega arith) (first_word 7 i)
      (then_word 1 (omega arith) (number_at_lem 1 2 255 w 1 p1.0 (omega arith))
      (then_word 2 (omega arith) (signed_at_lem 32767 w 2 p2.0 (omega arith)) (then_unused 3 13 refl b.1)))

  times_words : is_kind 8 w ≡ true → times_fit w ≡ true → words_of (times_in w) ≡ cleared w
  unfolding words_of passes
  times_words i e =
      let b1 = both (time_fits (pos 1440) 1 w) e in
      let b2 = both (time_fits (pos 2880) 3 w) b1.1 in
      let b3 = both (passes ranges.tail 5 w) b2.1 in
      let p5 = both (between (negsuc 0) (pos 1439) (word_at w 5)) b3.0 in
      let p6 = both (from 0 1 (word_at w 6)) p5.1 in
      let p7 = both (from 0 1 (word_at w 7)) p6.1 in
      rw (time_words_lem w 1 1440 (omega arith) b1.0, time_words_lem w 3 2880 (omega arith) b2.0)
      (then_word 0 (omega arith) (first_word 8 i)
      (then_word 1 (omega arith) refl
      (then_word 2 (omega arith) refl
      (then_word 3 (omega arith) refl
      (then_word 4 (omega arith) refl
      (then_word 5 (omega arith) (repeat_word_lem w 5 p5.0)
      (then_word 6 (omega arith) (bit_word w 6 p6.0)
      (then_word 7 (omega arith) (bit_word w 7 p7.0) (then_unused 8 8 refl b3.1)))))))))

  dates_words : is_kind 4 w ≡ true → dates_fit w ≡ true → words_of (dates_in w) ≡ cleared w
  unfolding words_of
  dates_words i e =
      let b1 = both (date_fits (pos 9999) 1 w) e in
      let b2 = both (date_fits (pos 10000) 8 w) b1.1 in
      rw (date_words_lem w 1 9999 (omega arith) b1.0, date_words_lem w 8 10000 (omega arith) b2.0)
      (then_word 0 (omega arith) (first_word 4 i)
      (then_word 1 (omega arith) refl (then_word 2 (omega arith) refl (then_word 3 (omega arith) refl (then_word 4 (omega arith) refl (then_word 5 (omega arith) refl (then_word 6 (omega arith) refl (then_word 7 (omega arith) refl
      (then_word 8 (omega arith) refl (then_word 9 (omega arith) refl (then_word 10 (omega arith) refl (then_word 11 (omega arith) refl (then_word 12 (omega arith) refl (then_word 13 (omega arith) refl (then_word 14 (omega arith) refl
      (then_unused 15 1 refl b2.1))))))))))))))))

  -- so a record that fits is its item's, the place aside
  pub item_words_lem : item_fits w ≡ true → words_of (candidate w) ≡ placed_at 0 w
  unfolding item_fits candidate
  item_words_lem e = go (is_kind 2 w) (is_kind 3 w) (is_kind 4 w) (is_kind 5 w) (is_kind 6 w) (is_kind 7 w) refl refl refl refl refl refl e ∙ sym (placed_cleared w l)
    where
      go : (a b c d f g : Bool) → is_kind 2 w ≡ a → is_kind 3 w ≡ b → is_kind 4 w ≡ c → is_kind 5 w ≡ d → is_kind 6 w ≡ f → is_kind 7 w ≡ g →
          (if a then years_fit w else if b then months_fit w else if c then dates_fit w else if d then weeks_fit w else if f then weekdays_fit w else if g then holidays_fit w else is_kind 8 w && times_fit w) ≡ true →
          words_of (if a then years_in w else if b then months_in w else if c then dates_in w else if d then weeks_in w else if f then weekdays_in w else if g then holidays_in w else times_in w) ≡ cleared w
      go true b c d f g i j k m n o e = years_words i e
      go false true c d f g i j k m n o e = months_words j e
      go false false true d f g i j k m n o e = dates_words k e
      go false false false true f g i j k m n o e = weeks_words m e
      go false false false false true g i j k m n o e = weekdays_words n e
      go false false false false false true i j k m n o e = holidays_words o e
      go false false false false false false i j k m n o e = let q = both (is_kind 8 w) e in times_words q.0 q.1
