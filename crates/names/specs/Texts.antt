-- Bytes that stand as they are, and blanks.
use Rattle.std.specs.Prelude.{ℕ, List, [], ◌∷◌, not, eqb}
use Prim.Native.Char.{Char, code}
use Prim.Native.String.{String, [] as empty, ◌∷◌ as ◌then◌}
use Rattle.names.specs.Read.{Reader, pure, ◌>>◌, map, one, ahead}
use Rattle.names.specs.Chain.{skip}

-- the bytes of a quoted text
abbrev pub bytes : String → List ℕ
bytes empty = []
bytes (c then s) = code c ∷ bytes s

-- this byte
unfoldable pub byte : ℕ → Reader (Unit {0})
byte b = map (λ _. tt) (one (eqb b))

-- this character
abbrev pub sign : Char → Reader (Unit {0})
sign c = byte (code c)

-- these bytes, one after another, where f says as what a byte of the text counts
unfoldable pub all_of : (ℕ → ℕ) → List ℕ → Reader (Unit {0})
all_of f [] = pure tt
all_of f (x ∷ xs) = do
  one (λ b. eqb (f b) x)
  all_of f xs

-- bytes 32, or none
unfoldable pub blanks : Reader (Unit {0})
blanks = skip (eqb (code " "))

-- a blank: one or more bytes 32
unfoldable pub blank : Reader (Unit {0})
blank = do
  sign " "
  blanks

-- a comma of a list: no blank follows it
unfoldable pub comma : Reader (Unit {0})
comma = do
  sign ","
  ahead (λ b. not (eqb (code " ") b))
