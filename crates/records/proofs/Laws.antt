-- Record words: what the machine reads back from the bits of an i32 and of an i16.
use Prim.Native.Nat.{ℕ, ◌^◌, ◌<◌}
use mathlib.Core.Path.{◌≡◌}
use native.Mathlib.Omega.{arith}
use lib.Signed.{mag}
use lib.IntN.{ℤ, pos}
use mir.Syntax.{w16, w32}
use mir.Val.{of_z, to_z}
use mir.Facts.{to_z-of_z, to_z_pos}
use borrow.Author.Rules.{sfits_of}

-- a u16 or a u8 as a word is its number
pub word : (n : ℕ) → n < 65536 → to_z w32 n ≡ pos n
word n h = to_z_pos w32 (omega arith)

-- an i32 kept as a word is itself
pub word_fits : (z : ℤ) → mag z < 2 ^ 31 → to_z w32 (of_z w32 z) ≡ z
word_fits z h = to_z-of_z {w = w32} (sfits_of h)

-- an i16 kept as such is itself
pub half_fits : (z : ℤ) → mag z < 2 ^ 15 → to_z w16 (of_z w16 z) ≡ z
half_fits z h = to_z-of_z {w = w16} {z = z} (sfits_of h)

-- a word that is passed on, or read from an array, is itself
pub ruleset passed = (to_z-of_z)
