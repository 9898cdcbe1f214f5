-- The feeds of document 04, section 2, and one with a final byte 10: one table, proved by one statement that the checker computes.
use Prim.Native.Nat.{ℕ}
use mathlib.Core.List.{List, [], ◌∷◌, map}
use mathlib.Core.Path.{◌≡◌, refl}
use lib.IntN.{ℤ, pos}
use Rattle.names.specs.Texts.{bytes}
use Rattle.feed.specs.Lines.{lines}
use Rattle.feed.specs.Feeds.{readings, feed_of}
use Rattle.c_calls.specs.Calls.{feed_numbers}
use Rattle.opened.proofs.Opened.{opened}

-- a feed, the places of the answer table, the words of the record table, and the answer: number, lines and records, and those of each line
pub record Row : Type 0 where
  pub feed : List ℕ
  pub places : ℕ
  pub words : ℕ
  pub numbers : List ℕ
  pub answers : List (List ℤ)

-- the answer of a line that is accepted with so many records
abbrev good : ℕ → List ℤ
good n = pos 0 ∷ pos 0 ∷ pos n ∷ pos 0 ∷ []

-- and of one that is refused
abbrev bad : ℕ → ℕ → List ℤ
bad number place = pos number ∷ pos place ∷ pos 0 ∷ pos 0 ∷ []

-- the table
unfoldable pub rows : List Row
rows =
    record { feed = bytes "\n"; places = 2; words = 64; numbers = 0 ∷ 1 ∷ 0 ∷ []; answers = bad 11 0 ∷ [] }
    ∷ record { feed = bytes "Mo\n\n"; places = 2; words = 64; numbers = 0 ∷ 2 ∷ 2 ∷ []; answers = good 2 ∷ bad 11 0 ∷ [] }
    ∷ record { feed = bytes "Mo\r\nTu"; places = 2; words = 64; numbers = 0 ∷ 2 ∷ 2 ∷ []; answers = bad 3 2 ∷ good 2 ∷ [] }
    ∷ record { feed = bytes "Mo \"a\nb\""; places = 2; words = 64; numbers = 0 ∷ 2 ∷ 0 ∷ []; answers = bad 12 3 ∷ bad 3 0 ∷ [] }
    ∷ record { feed = bytes "Mo\nMo 10:00"; places = 2; words = 64; numbers = 0 ∷ 2 ∷ 2 ∷ []; answers = good 2 ∷ bad 8 3 ∷ [] }
    ∷ record { feed = bytes "Mo\nTu\n24/7"; places = 3; words = 48; numbers = 0 ∷ 3 ∷ 3 ∷ []; answers = good 2 ∷ bad 10 0 ∷ good 1 ∷ [] }
    ∷ record { feed = bytes "Mo\nTu"; places = 2; words = 63; numbers = 0 ∷ 2 ∷ 2 ∷ []; answers = good 2 ∷ bad 10 0 ∷ [] }
    ∷ record { feed = bytes "Mo\nTu"; places = 1; words = 64; numbers = 14 ∷ 0 ∷ 0 ∷ []; answers = [] }
    ∷ record { feed = bytes ""; places = 0; words = 0; numbers = 0 ∷ 0 ∷ 0 ∷ []; answers = [] }
    ∷ record { feed = bytes "Mo\nTu\n"; places = 2; words = 64; numbers = 0 ∷ 2 ∷ 4 ∷ []; answers = good 2 ∷ good 2 ∷ [] }
    ∷ []

-- the numbers and the lines' answers that the definition computes
abbrev computed : Row → List ℕ × List (List ℤ)
computed r = let f = feed_of r.feed r.places r.words in (feed_numbers f.0, f.1.0)

-- every row is right
pub proved_feeds : map computed rows ≡ map (λ (r : Row). (r.numbers, r.answers)) rows
unfolding rows opened lines readings feed_of
proved_feeds = refl
