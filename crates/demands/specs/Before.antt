-- What stands before damage of any kind: "if two sheets within 4,096 bytes agree up to and including a semicolon outside quotes, then every part that ends at
-- or before it has the same answer, records and next place in both for tables of equal length".
use Rattle.std.specs.Prelude.{ℕ, suc, ◌≤◌, List, ◌∷◌, ◌++◌, true, false, ◌≡◌, ℤ, length}
use Rattle.names.specs.Quotes.{inside_of}
use Rattle.names.specs.declared.Manner.{Manner}
use Rattle.parts.specs.Parts.{begins, part_end}
use Rattle.sheet.specs.PartReadings.{part_by, part_reading_by, part_reading_bytes_by}
use Rattle.c_calls.specs.Calls.{part_call_by}

-- the sheets u;b and u;c, whatever b and c are: broken quotes, control bytes, bytes above 127
pub record Damaged (u b c : List ℕ) : Type 0 where
  pub old_fits : length (u ++ 59 ∷ b) ≤ 4096
  pub new_fits : length (u ++ 59 ∷ c) ≤ 4096
  pub outside : inside_of u ≡ false

-- the same parts begin in both up to the place after the semicolon
abbrev pub SameBeginnings : Type 0
SameBeginnings = (u b c : List ℕ) → Damaged u b c → (p : ℕ) → p ≤ suc (length u) → begins (u ++ 59 ∷ c) p ≡ begins (u ++ 59 ∷ b) p

-- every part that ends at or before the semicolon, in any manner, with tables of n words
abbrev pub BeforeDamage : Type 0
BeforeDamage = (m : Manner) (u b c : List ℕ) → Damaged u b c → (p n : ℕ) → begins (u ++ 59 ∷ b) p ≡ true → part_end (u ++ 59 ∷ b) p ≤ length u →
    (part_end (u ++ 59 ∷ c) p ≡ part_end (u ++ 59 ∷ b) p) × (part_by m (u ++ 59 ∷ c) p n ≡ part_by m (u ++ 59 ∷ b) p n)

-- the calls, with a table of words, with one of bytes, and from C: numbers, and the table afterwards
abbrev pub BeforeCalls : Type 0
BeforeCalls = (m : Manner) (u b c : List ℕ) → Damaged u b c → (p : ℕ) → begins (u ++ 59 ∷ b) p ≡ true → part_end (u ++ 59 ∷ b) p ≤ length u →
    ((t : List ℤ) → part_reading_by m (u ++ 59 ∷ c) p t ≡ part_reading_by m (u ++ 59 ∷ b) p t)
    × ((t : List ℕ) → part_reading_bytes_by m (u ++ 59 ∷ c) p t ≡ part_reading_bytes_by m (u ++ 59 ∷ b) p t)
    × ((t : List ℕ) → part_call_by m (u ++ 59 ∷ c) p t ≡ part_call_by m (u ++ 59 ∷ b) p t)
