-- Digits: year 4, N 1 to 5, n 1, MM 2, others 1 or 2 (docs/RULES.md, 3).
use Rattle.std.specs.Prelude.{ℕ, zero, suc, ◌+◌, ◌-◌, ◌*◌, Bool, eqb}
use Prim.Native.Char.{code}
use Rattle.names.specs.Tests.{within}
use Rattle.names.specs.Read.{Reader, got, branch, pure, ◌>>=◌, ◌>>◌, unless, when, one, ahead}
use Rattle.names.specs.Chain.{skip}
use Rattle.names.specs.Texts.{sign}

-- a byte of 0 to 9
unfoldable pub is_digit : ℕ → Bool
is_digit = within (code "0") (code "9")

-- one digit
unfoldable pub digit : Reader ℕ
digit = do
  b ← one is_digit
  pure (b - code "0")

-- the number a, where no more digits are wanted
abbrev pub enough : ℕ → ℕ → Reader ℕ
enough wanted a s i = when (eqb wanted 0) (got a i)

-- up to n digits more after the number a, as many as there are, of which so many are still wanted
unfoldable pub up_to : ℕ → ℕ → ℕ → Reader ℕ
up_to zero wanted a = enough wanted a
up_to (suc n) wanted a = branch digit (λ d. up_to n (wanted - 1) (a * 10 + d)) (enough wanted a)

-- the value of so many digits at least, and at most, as many as there are
unfoldable pub digits : ℕ → ℕ → Reader ℕ
digits least most = up_to most least 0

-- digits followed by `:` and a digit are a clock time: after some of those digits, the others, `:` and a digit
unfoldable pub clock_after : Reader (Unit {0})
clock_after = do
  skip is_digit
  sign ":"
  ahead is_digit

-- a number of any other shape, whatever its range
unfoldable pub number : ℕ → ℕ → Reader ℕ
number least most = do
  a ← digits least most
  unless clock_after
  pure a

-- a year: 4 digits
abbrev pub year : Reader ℕ
year = number 4 4

-- N: 1 to 5 digits
abbrev pub count : Reader ℕ
count = number 1 5

-- n: 1 digit
abbrev pub ordinal : Reader ℕ
ordinal = number 1 1

-- D and W: 1 or 2 digits
abbrev pub short : Reader ℕ
short = number 1 2

-- MM that stands alone: 2 digits
abbrev pub minutes : Reader ℕ
minutes = number 2 2

-- H of a clock time: 1 or 2 digits
abbrev pub hour : Reader ℕ
hour = digits 1 2

-- MM of a clock time: 2 digits
abbrev pub minute : Reader ℕ
minute = digits 2 2
