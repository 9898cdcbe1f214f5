-- What the calendar says of a month: its last day, and which days it has.
use Rattle.std.specs.Prelude.{if◌then◌else◌}
use Prim.Native.Nat.{ℕ, suc, ◌≤◌, ◌<◌}
use mathlib.Core.Bool.{Bool, true, false, ◌||◌, and-eq-true_iff}
use mathlib.Core.Logic.{◌⊎◌, inl, inr}
use mathlib.Core.Path.{◌≡◌, refl}
use native.Mathlib.Omega.{arith}
use borrow.Author.Tests.{ne_eqb, eqb-true}
use lib.Dec.{eqb}
use Rattle.names.specs.Tests.{within}
use Rattle.names.proofs.Laws.{within_true, within_range}
use Rattle.calendar.specs.Calendar.{leap, last_of_february, has_thirty, last_of, is_day}

-- April, June, September and November
abbrev pub Thirty : ℕ → Type 0
Thirty m = (m ≡ 4) ⊎ ((m ≡ 6) ⊎ ((m ≡ 9) ⊎ (m ≡ 11)))

is_thirty : (m : ℕ) → has_thirty m ≡ true → Thirty m
unfolding has_thirty
is_thirty m h = go (eqb m 4) refl (eqb m 6) refl (eqb m 9) refl h
  where
    go : (a : Bool) → eqb m 4 ≡ a → (b : Bool) → eqb m 6 ≡ b → (c : Bool) → eqb m 9 ≡ c → (a || b || c || eqb m 11) ≡ true → Thirty m
    go true p b q c r h = inl (eqb-true m 4 p)
    go false p true q c r h = inr (inl (eqb-true m 6 q))
    go false p false q true r h = inr (inr (inl (eqb-true m 9 r)))
    go false p false q false r h = inr (inr (inr (eqb-true m 11 h)))

module _ (y : ℕ) where
  pub thirty : {m : ℕ} → Thirty m → last_of y m ≡ 30
  unfolding last_of has_thirty
  thirty (inl e) = rw e
  thirty (inr (inl e)) = rw e
  thirty (inr (inr (inl e))) = rw e
  thirty (inr (inr (inr e))) = rw e

  pub thirty_one : (m : ℕ) → (m ≡ 2 → ⊥) → (Thirty m → ⊥) → last_of y m ≡ 31
  unfolding last_of has_thirty
  thirty_one m f h =
      rw (ne_eqb m 2 f, ne_eqb m 4 (λ e. h (inl e)), ne_eqb m 6 (λ e. h (inr (inl e))), ne_eqb m 9 (λ e. h (inr (inr (inl e)))), ne_eqb m 11 (λ e. h (inr (inr (inr e)))))

  after_thirty : {m : ℕ} → Thirty m → last_of y (suc m) ≡ 31
  unfolding last_of has_thirty
  after_thirty (inl e) = rw e
  after_thirty (inr (inl e)) = rw e
  after_thirty (inr (inr (inl e))) = rw e
  after_thirty (inr (inr (inr e))) = rw e

  pub january : last_of y 1 ≡ 31
  unfolding last_of has_thirty
  january = refl

  after_february : last_of y 3 ≡ 31
  unfolding last_of has_thirty
  after_february = refl

  pub december : last_of y 12 ≡ 31
  unfolding last_of has_thirty
  december = refl

  -- of two months in a row, one has 31 days
  pub one_of_two : (m : ℕ) → last_of y m < 31 → last_of y (suc m) ≡ 31
  unfolding last_of
  one_of_two m h = go (eqb m 2) refl (has_thirty m) refl h
    where
      go : (t : Bool) → eqb m 2 ≡ t → (u : Bool) → has_thirty m ≡ u → (if t then last_of_february y else if u then 30 else 31) < 31 → last_of y (suc m) ≡ 31
      go true p u q l = rw (eqb-true m 2 p) after_february
      go false p true q l = after_thirty (is_thirty m q)
      go false p false q l = absurd (omega arith)

  -- a day of a month, by its numbers
  pub day_range : (m d : ℕ) → is_day y m d ≡ true → ((1 ≤ m) × (m ≤ 12)) × ((1 ≤ d) × (d ≤ last_of y m))
  unfolding is_day
  day_range m d h = let p = (and-eq-true_iff (within 1 12 m) (within 1 (last_of y m) d)).0 h in (within_range 1 12 m p.0, within_range 1 (last_of y m) d p.1)

  pub day_there : (m d : ℕ) → 1 ≤ m → m ≤ 12 → 1 ≤ d → d ≤ last_of y m → is_day y m d ≡ true
  unfolding is_day
  day_there m d a b e f = rw (within_true 1 12 m a b, within_true 1 (last_of y m) d e f)

  -- without a year, every month is as long as in a leap year
  pub as_leap : (m : ℕ) → leap y ≡ true → last_of 0 m ≡ last_of y m
  unfolding last_of last_of_february
  as_leap m h = rw (h, go (eqb y 0))
    where
      go : (t : Bool) → (t || true) ≡ true
      go true = refl
      go false = refl
