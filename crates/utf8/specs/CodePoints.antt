-- Well-formed UTF-8 said another way: the code points of RFC 3629, section 3, each in its shortest form. That both say the same is proved.
use Rattle.std.specs.Prelude.{ℕ, ◌+◌, ◌/◌, ◌%◌, Bool, true, ◌&&◌, not, List, [], ◌∷◌, ◌++◌, ◌≡◌, leb, length, if◌then◌else◌}
use Rattle.names.specs.Tests.{within}
use Rattle.names.specs.Read.{got}
use Rattle.utf8.specs.Utf8.{utf8_octets}

-- a scalar value: 0 to 10FFFF, without the surrogates D800 to DFFF
unfoldable pub is_scalar : ℕ → Bool
is_scalar c = leb c 0x10FFFF && not (within 0xD800 0xDFFF c)

-- a byte after the first: 10xxxxxx, the low six bits of n
abbrev pub six_bits : ℕ → ℕ
six_bits n = 0x80 + n % 64

-- the bytes of a code point, as few as it needs: 0xxxxxxx; 110xxxxx, 1110xxxx, 11110xxx with its high bits, six bits in each byte after
unfoldable pub encode : ℕ → List ℕ
encode c =
    if leb c 0x7F then c ∷ []
    else if leb c 0x7FF then (0xC0 + c / 64) ∷ six_bits c ∷ []
    else if leb c 0xFFFF then (0xE0 + c / 4096) ∷ six_bits (c / 64) ∷ six_bits c ∷ []
    else (0xF0 + c / 262144) ∷ six_bits (c / 4096) ∷ six_bits (c / 64) ∷ six_bits c ∷ []

-- the bytes of code points, one after another
unfoldable pub encode_all : List ℕ → List ℕ
encode_all [] = []
encode_all (c ∷ cs) = encode c ++ encode_all cs

-- whether all are scalar values
unfoldable pub all_scalar : List ℕ → Bool
all_scalar [] = true
all_scalar (c ∷ cs) = is_scalar c && all_scalar cs

-- bytes are well-formed by the table: its characters from the first byte on end at the last
abbrev pub WellFormed : List ℕ → Type 0
WellFormed s = utf8_octets s 0 ≡ got tt (length s)

-- bytes are scalar values, encoded
pub record Encoded (s : List ℕ) : Type 0 where
  pub values : List ℕ
  pub scalar : all_scalar values ≡ true
  pub is : s ≡ encode_all values

-- both say the same
abbrev pub TableIsCodePoints : Type 0
TableIsCodePoints = (s : List ℕ) → (WellFormed s → Encoded s) × (Encoded s → WellFormed s)
