-- Numbers in decimal.
use Rattle.std.specs.Prelude.{ℕ, zero, suc, ◌+◌, ◌/◌, ◌%◌, cond, List, [], ◌∷◌, ◌++◌, ltb, ℤ, pos, negsuc}
use Prim.Native.Char.{code}

-- the digit of a number below ten
abbrev pub digit : ℕ → ℕ
digit n = code "0" + n

-- the digits of a number, the first of them no 0 unless it is the only one: a number below ten is one digit, any other has its last digit after those of its tenth
-- (so many tenths are looked at)
unfoldable pub digits_in : ℕ → ℕ → List ℕ
digits_in zero n = digit n ∷ []
digits_in (suc tenths) n = cond (ltb n 10) (digit n ∷ []) (digits_in tenths (n / 10) ++ (digit (n % 10) ∷ []))

-- a number (n tenths of n are enough)
unfoldable pub decimal : ℕ → List ℕ
decimal n = digits_in n n

-- a number that may be below 0
unfoldable pub signed : ℤ → List ℕ
signed (pos n) = decimal n
signed (negsuc n) = code "-" ∷ decimal (suc n)
