-- Worked examples of documents 01 and 03, as the definitions compute them.
use Prim.Native.Nat.{ℕ}
use Prim.Native.String.{String}
use mathlib.Core.Bool.{true, false}
use mathlib.Core.List.{List, [], ◌∷◌, map}
use mathlib.Core.Path.{◌≡◌, refl}
use Rattle.names.specs.Tests.{within}
use Rattle.names.specs.Read.{Read, got, none, one, ahead}
use Rattle.names.specs.Chain.{chain_in, chain, many, skip}
use Rattle.names.specs.Texts.{bytes, byte, all_of}
use Rattle.names.specs.Numbers.{is_digit, digit, up_to, digits, clock_after, number, year, count, ordinal, short, minutes}
use Rattle.names.specs.Names.{names, spelled_so, lower, letter, first_of, word, name, weekday, month, event, modifier, holiday, day}
use Rattle.names.specs.Spellings.{all_small, well_begun, well_written, warns}

-- numbers: their digits, the greatest width taken, and never before `:` and a digit
numbers : List (Read ℕ)
numbers =
    year (bytes "2020 Dec") 0 ∷ year (bytes "18991") 0 ∷ year (bytes "1899:00") 0 ∷ year (bytes "202") 0
    ∷ count (bytes "00002") 0 ∷ count (bytes "999999") 0 ∷ count (bytes "999999:00") 0
    ∷ ordinal (bytes "10") 0 ∷ short (bytes "Jan 993:00") 4 ∷ short (bytes "Jan 05") 4 ∷ short (bytes "Jan 1: ") 4 ∷ short (bytes "Jan") 9
    ∷ minutes (bytes "/605") 1 ∷ minutes (bytes "/5") 1 ∷ []

numbers_right : numbers ≡ got 2020 4 ∷ got 1899 4 ∷ none ∷ none ∷ got 2 5 ∷ got 99999 5 ∷ none ∷ got 1 1 ∷ none ∷ got 5 6 ∷ got 1 5 ∷ none ∷ got 60 3 ∷ none ∷ []
unfolding numbers number digits up_to digit is_digit within clock_after skip many chain chain_in byte one ahead
numbers_right = refl

-- names: the longest of the table, in any case or spelled so
words : List (Read ℕ)
words =
    name weekday (bytes "sunset") 0 ∷ name event (bytes "SunSet+") 0 ∷ name weekday (bytes "Su-Sa") 0 ∷ name weekday (bytes "week 1") 0 ∷ name weekday (bytes "Week 1") 0
    ∷ name holiday (bytes "PH") 0 ∷ name holiday (bytes "ph") 0 ∷ name day (bytes "days") 0 ∷ name day (bytes "Days") 0 ∷ name month
    (bytes "2020 dEC 25") 5 ∷ name modifier (bytes "OFF") 0 ∷ name month (bytes "Ma") 0
    ∷ name month (bytes "@pr") 0 ∷ name month (bytes "`pr") 0 ∷ name weekday (bytes "S[") 0 ∷ name weekday (bytes "S{") 0 ∷ name weekday (bytes "-o") 0 ∷ []

words_right : words ≡ none ∷ got 3 6 ∷ got 7 2 ∷ none ∷ got 3 2 ∷ got 1 2 ∷ none ∷ got 0 4 ∷ none ∷ got 12 8 ∷ got 1 3 ∷ none ∷ none ∷ none ∷ none ∷ none ∷ none ∷ []
unfolding words name word first_of names all_of letter spelled_so lower within one
words_right = refl

-- a weekday wants one capital and then small letters, an event small letters alone; `PH` is spelled so
warnings_right :
    map (λ (e : ℕ × String). warns e.0 (bytes e.1)) ((weekday, "Mo") ∷ (weekday, "mo") ∷ (weekday, "MO") ∷ (weekday, "mO") ∷ (event, "sunset") ∷ (event, "Sunset") ∷ (holiday, "PH") ∷ [])
    ≡ false ∷ true ∷ true ∷ true ∷ false ∷ true ∷ false ∷ []
unfolding warns well_written well_begun all_small spelled_so
warnings_right = refl
