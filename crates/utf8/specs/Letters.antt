-- What may stand between the quotes of a comment: bytes from 32 up except `"`; and of these the well-formed characters.
use Rattle.std.specs.Prelude.{ℕ, Bool, ◌&&◌, not, List, ◌≡◌, leb, eqb}
use Prim.Native.Char.{code}
use Rattle.std.proofs.Math.Seq.{slice}
use Rattle.names.specs.Tests.{within}
use Rattle.names.specs.Read.{Reader, got, ◌or◌, map, one}
use Rattle.names.specs.Chain.{many, skip}
use Rattle.utf8.specs.Utf8.{longer}
use Rattle.utf8.specs.CodePoints.{WellFormed}

-- a byte of a comment: from 32 up except `"`
unfoldable pub is_inner : ℕ → Bool
is_inner b = leb 32 b && not (eqb (code "\"") b)

-- UTF8-1, where it is such a byte
abbrev pub is_plain : ℕ → Bool
is_plain b = within 0x00 0x7F b && is_inner b

unfoldable pub plain : Reader (Unit {0})
plain = map (λ _. tt) (one is_plain)

-- a character of a comment: the bytes of a longer one are all above 127, so they are such bytes
unfoldable pub letter : Reader (Unit {0})
letter = plain or longer

-- the characters of a comment from here on, as many as there are
unfoldable pub letters : Reader (Unit {0})
letters = map (λ _. tt) (many letter)

-- where bytes of a comment stand from i up to k and no further, its characters end there exactly when these bytes are well-formed
abbrev pub LettersAreWellFormed : Type 0
LettersAreWellFormed =
    (s : List ℕ) (i k : ℕ) → skip is_inner s i ≡ got tt k → (letters s i ≡ got tt k → WellFormed (slice i k s)) × (WellFormed (slice i k s) → letters s i ≡ got tt k)
