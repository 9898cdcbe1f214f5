-- The Gregorian calendar: leap years, the last day of a month, and which days there are. Year 0 stands for no year (docs/RULES.md, 4).
use Rattle.std.specs.Prelude.{ℕ, ◌%◌, Bool, not, ◌&&◌, ◌||◌, eqb, if◌then◌else◌}
use Rattle.names.specs.Tests.{within}

-- n is divisible by k
abbrev pub divisible : ℕ → ℕ → Bool
divisible k n = eqb (n % k) 0

-- a leap year is divisible by 4 and not by 100, unless by 400
unfoldable pub leap : ℕ → Bool
leap y = divisible 4 y && (not (divisible 100 y) || divisible 400 y)

-- the last day of February: 29 in a leap year, and without a year
unfoldable pub last_of_february : ℕ → ℕ
last_of_february y = if eqb y 0 || leap y then 29 else 28

-- April, June, September and November
unfoldable pub has_thirty : ℕ → Bool
has_thirty m = eqb m 4 || eqb m 6 || eqb m 9 || eqb m 11

-- the last day of month m of year y
unfoldable pub last_of : ℕ → ℕ → ℕ
last_of y m = if eqb m 2 then last_of_february y else if has_thirty m then 30 else 31

-- year y has a month m with a day d
unfoldable pub is_day : ℕ → ℕ → ℕ → Bool
is_day y m d = within 1 12 m && within 1 (last_of y m) d
