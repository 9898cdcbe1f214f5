-- Demand 3 "within a line for equal room left and an exchange without byte 10":
-- in the line numbered j of a feed, the part x between a and b is exchanged for y. The lines before it have their old answers and records. The line has the room that
-- it had, and every other part of it, read with a table as long as before, is left as specs/Exchanged.antt says. A later line has its old answer and records where the
-- room left for it is equal. It is equal for all of them where the line has as many records as before; else what the line leaves is less by 16 words for each record more.
use Rattle.std.specs.Prelude.{ℕ, ◌<◌, List, [], ◌∷◌, ◌++◌, true, ◌≢◌, ◌≡◌, length}
use Rattle.parts.specs.Parts.{begins}
use Rattle.feed.specs.Lines.{lines}
use Rattle.names.specs.declared.Manner.TheVariants.{First}
use Rattle.demands.specs.Exchanged.{Exchanged, Unchanged, Was}
use Rattle.demands.specs.Feeds.{room_for, line_read}

-- bytes that are not 10
abbrev pub NoTen : List ℕ → Type 0
NoTen [] = Unit {0}
NoTen (b ∷ l) = (b ≢ 10) × NoTen l

-- what stands before a line: nothing, or what ends with byte 10
pub data Before : List ℕ → Type 0 where
  first : Before []
  later : (p : List ℕ) → Before (p ++ (10 ∷ []))

-- what stands after a line l: what begins with byte 10, or nothing if l is not empty, since a final byte 10 starts no line
pub data After (l : List ℕ) : List ℕ → Type 0 where
  last : 0 < length l → After l []
  more : (q : List ℕ) → After l (10 ∷ q)

-- in a line between p and q the part x between a and b is exchanged for y, which has no byte 10; it is a line afterwards too
pub record Within (p a x y b q : List ℕ) : Type 0 where
  pub starts : Before p
  pub line : NoTen (a ++ (x ++ b))
  pub ends : After (a ++ (x ++ b)) q
  pub stays : After (a ++ (y ++ b)) q
  pub exchanged : Exchanged a x y b
  pub no_ten : NoTen y

-- what the exchange leaves of a feed `old`, the line numbered j of which is exchanged in the feed `new`, for a table of n words
pub record UnchangedLines (old new : List ℕ) (j n : ℕ) : Type 0 where
  pub as_many : length (lines new) ≡ length (lines old)
  pub before : (k : ℕ) → k < j → line_read new n k ≡ line_read old n k
  pub same_room : room_for (lines new) n j ≡ room_for (lines old) n j
  pub later : (k : ℕ) → j < k → k < length (lines old) → room_for (lines new) n k ≡ room_for (lines old) n k → line_read new n k ≡ line_read old n k
  pub equal_room : (line_read new n j).0.records ≡ (line_read old n j).0.records → (k : ℕ) → room_for (lines new) n k ≡ room_for (lines old) n k

-- and of that line: each other part of it, for a table of m words; it has no others afterwards
pub record UnchangedWithin (p a x y b q : List ℕ) (n : ℕ) : Type 0 where
  pub feed : UnchangedLines (p ++ ((a ++ (x ++ b)) ++ q)) (p ++ ((a ++ (y ++ b)) ++ q)) (length (lines p)) n
  pub parts : (place m : ℕ) → begins (a ++ (x ++ b)) place ≡ true → place ≢ length a → Unchanged First a x y b m place
  pub no_others : (place : ℕ) → begins (a ++ (y ++ b)) place ≡ true → place ≢ length a → Was a x y b place
