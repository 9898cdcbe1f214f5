-- The names, and which of them stands at a place of a text (docs/RULES.md, 3).
use Rattle.std.specs.Prelude.{ℕ, ◌+◌, List, [], ◌∷◌, ◌++◌, Bool, leb, eqb, if◌then◌else◌}
use Prim.Native.Char.{code}
use Rattle.names.specs.Tests.{within}
use Rattle.names.specs.Read.{Reader, branch, nothing, pure, ◌>>=◌, ◌>>◌, only}
use Rattle.names.specs.Texts.{bytes, all_of}

-- the kinds of names
abbrev pub weekday : ℕ
weekday = 1

abbrev pub month : ℕ
month = 2

abbrev pub event : ℕ
event = 3

abbrev pub easter : ℕ
easter = 4

abbrev pub modifier : ℕ
modifier = 5

abbrev pub holiday : ℕ
holiday = 6

abbrev pub week : ℕ
week = 7

abbrev pub day : ℕ
day = 8

-- a name's kind, and which of its kind it is
abbrev pub Word : Type 0
Word = ℕ × ℕ

-- a name: its letters, its kind and which of its kind it is
abbrev pub Row : Type 0
Row = List ℕ × Word

-- the names of seven letters
abbrev pub seven : List Row
seven = (bytes "sunrise", (event, 2)) ∷ (bytes "unknown", (modifier, 2)) ∷ []

-- of six letters
abbrev pub six : List Row
six = (bytes "closed", (modifier, 1)) ∷ (bytes "easter", (easter, 0)) ∷ (bytes "sunset", (event, 3)) ∷ []

-- of four letters
abbrev pub four : List Row
four =
    (bytes "dawn", (event, 1))
    ∷ (bytes "dusk", (event, 4))
    ∷ (bytes "open", (modifier, 0))
    ∷ (bytes "week", (week, 0))
    ∷ (bytes "days", (day, 0))
    ∷ []

-- of three letters
abbrev pub three : List Row
three =
    (bytes "off", (modifier, 1))
    ∷ (bytes "day", (day, 0))
    ∷ (bytes "jan", (month, 1))
    ∷ (bytes "feb", (month, 2))
    ∷ (bytes "mar", (month, 3))
    ∷ (bytes "apr", (month, 4))
    ∷ (bytes "may", (month, 5))
    ∷ (bytes "jun", (month, 6))
    ∷ (bytes "jul", (month, 7))
    ∷ (bytes "aug", (month, 8))
    ∷ (bytes "sep", (month, 9))
    ∷ (bytes "oct", (month, 10))
    ∷ (bytes "nov", (month, 11))
    ∷ (bytes "dec", (month, 12))
    ∷ []

-- of two letters
abbrev pub two : List Row
two =
    (bytes "mo", (weekday, 1))
    ∷ (bytes "tu", (weekday, 2))
    ∷ (bytes "we", (weekday, 3))
    ∷ (bytes "th", (weekday, 4))
    ∷ (bytes "fr", (weekday, 5))
    ∷ (bytes "sa", (weekday, 6))
    ∷ (bytes "su", (weekday, 7))
    ∷ (bytes "PH", (holiday, 1))
    ∷ (bytes "SH", (holiday, 2))
    ∷ []

-- of four letters or more
abbrev pub four_or_more : List Row
four_or_more = seven ++ six ++ four

-- of three letters or more
abbrev pub three_or_more : List Row
three_or_more = seven ++ six ++ four ++ three

-- the names by their length, the longest first
unfoldable pub names : List Row
names = seven ++ six ++ four ++ three ++ two

-- `PH`, `SH`, `week`, `day`, `days` are spelled so: the kinds from `holiday` on
unfoldable pub spelled_so : ℕ → Bool
spelled_so kind = leb holiday kind

-- the small letter of a capital
unfoldable pub lower : ℕ → ℕ
lower b = if within (code "A") (code "Z") b then b + 32 else b

-- as what a letter of the text counts for a name of this kind: the other names take any case
unfoldable pub letter : ℕ → ℕ → ℕ
letter kind b = if spelled_so kind then b else lower b

-- the first of these names that stands here, letter by letter
unfoldable pub first_of : List Row → Reader Word
first_of [] = nothing
first_of (r ∷ rs) = branch (all_of (letter r.1.0) r.0) (λ _. pure r.1) (first_of rs)

-- the longest name of the table that stands here
unfoldable pub word : Reader Word
word = first_of names

-- a name of this kind: which one. The longest name of the whole table is taken, and never undone
unfoldable pub name : ℕ → Reader ℕ
name k = do
  w ← word
  only (eqb w.0 k)
  pure w.1
