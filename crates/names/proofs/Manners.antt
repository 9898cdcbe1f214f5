-- The manners of reading that are not a given one.
use mathlib.Core.Path.{◌≡◌, refl}
use Rattle.names.specs.declared.Manner.{Manner}
use Rattle.names.specs.declared.Manner.TheVariants.{First, Second, House}

-- what is so of the first edition and of a house sheet is so of every manner but the second edition
pub not_second : (P : Manner → Type 0) → P First → P House → (m : Manner) → (m ≡ Second → ⊥) → P m
not_second P a b First k = a
not_second P a b Second k = absurd (k refl)
not_second P a b House k = b

-- what is so of both editions is so of every manner but that of a house sheet
pub not_house : (P : Manner → Type 0) → P First → P Second → (m : Manner) → (m ≡ House → ⊥) → P m
not_house P a b First k = a
not_house P a b Second k = b
not_house P a b House k = absurd (k refl)
