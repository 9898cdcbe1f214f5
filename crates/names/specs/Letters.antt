-- What has to be believed of how names are written: where a name stands, each byte is a letter, so that `is_small` (Spellings) tells a small letter from a capital.
use Rattle.std.specs.Prelude.{ℕ, ◌≤◌, ◌<◌, List, Bool, true, not, ◌||◌, ◌≡◌, get_or}
use Prim.Native.Char.{code}
use Rattle.names.specs.Tests.{within}
use Rattle.names.specs.Spellings.{is_small}

-- a capital, and a small letter
abbrev pub capital : ℕ → Bool
capital b = within (code "A") (code "Z") b

abbrev pub small : ℕ → Bool
small b = within (code "a") (code "z") b

-- a byte is a letter, and as a small one and as a capital it is told right
pub record Letter (b : ℕ) : Type 0 where
  pub is : (capital b || small b) ≡ true
  pub told_small : is_small b ≡ small b
  pub told_capital : not (is_small b) ≡ capital b

-- so is each from place i to place j of a text
abbrev pub Letters : List ℕ → ℕ → ℕ → Type 0
Letters s i j = (k : ℕ) → i ≤ k → k < j → Letter (get_or s k 0)
