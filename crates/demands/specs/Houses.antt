-- House sheets: "a reading over edition 1: same records, refusing besides exactly the sheets that break one of these", over the records of edition 1.
use Rattle.std.specs.Prelude.{ℕ, ◌≤◌, ◌<◌, List, [], ◌∷◌, ◌⊎◌, ◌≡◌, ℤ, pos, negsuc, get_or}
use Rattle.names.specs.Refusals.{no_room}
use Rattle.names.specs.declared.Manner.TheVariants.{House}
use Rattle.house.specs.Profile.{Each}
use Rattle.sheet.specs.Sheets.{sheet_by, sheet_of}
use Rattle.sheet.specs.PartReadings.{part_by, part_of}
use Rattle.sheet.specs.declared.Answer.{Answer}
use Rattle.sheet.specs.declared.PartAnswer.{PartAnswer}

-- one word is at most another, and is less
abbrev pub AtMost : ℤ → ℤ → Type 0
AtMost (pos a) (pos b) = a ≤ b
AtMost (pos a) (negsuc b) = ⊥
AtMost (negsuc a) (pos b) = Unit {0}
AtMost (negsuc a) (negsuc b) = b ≤ a

abbrev pub Less : ℤ → ℤ → Type 0
Less (pos a) (pos b) = a < b
Less (pos a) (negsuc b) = ⊥
Less (negsuc a) (pos b) = Unit {0}
Less (negsuc a) (negsuc b) = b < a

-- a word of a record
abbrev pub word : ℕ → List ℤ → ℤ
word k r = get_or r k (pos 0)

-- a head, and a span
abbrev pub IsHead : List ℤ → Type 0
IsHead r = word 0 r ≡ pos 1

abbrev pub IsSpan : List ℤ → Type 0
IsSpan r = word 0 r ≡ pos 8

-- of records after a span that ends at e, up to the next head: each span starts no earlier; touching is allowed
abbrev pub StartAfter : ℤ → List (List ℤ) → Type 0
StartAfter e [] = Unit {0}
StartAfter e (r ∷ rs) = IsHead r ⊎ ((IsSpan r → AtMost e (word 2 r)) × StartAfter e rs)

-- within a rule spans in rising order, no two overlapping
abbrev pub Rising : List (List ℤ) → Type 0
Rising [] = Unit {0}
Rising (r ∷ rs) = (IsSpan r → StartAfter (word 4 r) rs) × Rising rs

-- the sentences of the profile on a span: only clock times, up to 24:00, without repeat or open end, its end after its start
pub record SpanKeeps (r : List ℤ) : Type 0 where
  pub clock_start : word 1 r ≡ pos 0
  pub clock_end : word 3 r ≡ pos 0
  pub start_midnight : AtMost (word 2 r) (pos 1440)
  pub end_midnight : AtMost (word 4 r) (pos 1440)
  pub no_repeat : word 5 r ≡ negsuc 0
  pub no_open_end : word 6 r ≡ pos 0
  pub forward : Less (word 2 r) (word 4 r)

-- and on records: only `;`; each span so; and spans in rising order, no two overlapping
pub record Profile (rs : List (List ℤ)) : Type 0 where
  pub semicolons : Each (λ r. IsHead r → word 1 r ≡ pos 0) rs
  pub spans : Each (λ r. IsSpan r → SpanKeeps r) rs
  pub rising : Rising rs

-- what the house answers, over what edition 1 answers, with the records
pub record OverFirst {A : Type 0} (number : A → ℕ) (house first : A × List (List ℤ)) : Type 0 where
  -- what the house accepts, edition 1 accepts with the same records and warnings, and it breaks no sentence
  pub accepted : number house.0 ≡ 0 → (house ≡ first) × Profile first.1
  -- and what edition 1 accepts and breaks no sentence, the house accepts
  pub accepts : number first.0 ≡ 0 → Profile first.1 → house ≡ first
  -- what edition 1 refuses, by any number but 10, the house refuses so too
  pub refuses : (number first.0 ≡ 0 → ⊥) → (number first.0 ≡ no_room → ⊥) → house ≡ first

-- a sheet, for a table of n words
abbrev pub HouseSheets : Type 0
HouseSheets = (s : List ℕ) (n : ℕ) → OverFirst (λ (a : Answer). a.number) (sheet_by House s n) (sheet_of s n)

-- the part of a sheet that begins at p
abbrev pub HouseParts : Type 0
HouseParts = (s : List ℕ) (p n : ℕ) → OverFirst (λ (a : PartAnswer). a.number) (part_by House s p n) (part_of s p n)
