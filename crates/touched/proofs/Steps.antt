-- Ends that are not fixed are undecided.
use Prim.Native.Nat.{ℕ}
use mathlib.Core.Path.{◌≡◌, refl}
use Rattle.records.specs.declared.Day.{Day}
use Rattle.records.specs.declared.Day.TheVariants.{Fixed, Weekday, Easter}
use Rattle.almanac.specs.declared.OnDay.{OnDay}
use Rattle.touched.specs.Selectors.{ends_touch}
use Rattle.touched.specs.declared.Touch.TheVariants.{Undecided}

pub not_fixed : (y : ℕ) (a : Day) (z : ℕ) (b : Day) (d : OnDay) → ((m f : ℕ) → a ≡ Fixed m f → ⊥) → ends_touch y a z b d ≡ Undecided
unfolding ends_touch
not_fixed y (Fixed m f) z b d k = absurd (k m f refl)
not_fixed y (Weekday m w n) z b d k = refl
not_fixed y Easter z b d k = refl

pub not_fixed_last : (y m f z : ℕ) (b : Day) (d : OnDay) → ((n l : ℕ) → b ≡ Fixed n l → ⊥) → ends_touch y (Fixed m f) z b d ≡ Undecided
unfolding ends_touch
not_fixed_last y m f z (Fixed n l) d k = absurd (k n l refl)
not_fixed_last y m f z (Weekday n w i) d k = refl
not_fixed_last y m f z Easter d k = refl
