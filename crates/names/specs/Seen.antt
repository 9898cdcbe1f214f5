-- What an answer of the code says, in the definitions' terms.
use Rattle.std.specs.Prelude.{ℕ, ◌≤◌, Bool, ◌≡◌, Option, Some, None, Result, Ok, Err}
use Rattle.names.specs.Read.{Read, got, none, refused}
use Rattle.names.specs.Refusals as refusals
use Rattle.names.specs.Names as names
use Rattle.names.specs.declared.Cursor.{Cursor}
use Rattle.names.specs.declared.NameKind.{NameKind}
use Rattle.names.specs.declared.NameKind.TheVariants as kind
use Rattle.names.specs.declared.Word.{Word}
use Rattle.names.specs.declared.Named.{Named}
use Rattle.names.specs.declared.Spelled.{Spelled}
use Rattle.names.specs.declared.refusals.Reason.{Reason}
use Rattle.names.specs.declared.refusals.Refusal.{Refusal}

-- a place after what was read
abbrev pub seen_step : Option Cursor → Read (Unit {0})
seen_step (Some c) = got tt c.at
seen_step None = none

-- a value, which says what f says of it, and the place after it
abbrev pub seen : {A B : Type 0} → (A → B) → Option (A × Cursor) → Read B
seen f (Some x) = got (f x.0) x.1.at
seen f None = none

-- the same of a value that is always there, if only as nothing
abbrev pub seen_then : {A B : Type 0} → (A → B) → A × Cursor → Read B
seen_then f x = got (f x.0) x.1.at

-- the same of what may be refused: a value, or no such shape; n is the number of why
abbrev pub seen_by : {A B R : Type 0} → (R → ℕ) → (A → B) → Result (Option (A × Cursor)) (Refusal R) → Read B
seen_by n f (Ok o) = seen f o
seen_by n f (Err r) = refused (n r.reason) r.place

-- refused by a reason
abbrev pub seen_judged : {A B : Type 0} → (A → B) → Result (Option (A × Cursor)) (Refusal Reason) → Read B
seen_judged = seen_by refusals.number

-- the same of what is always there, or refused
abbrev pub seen_certain : {A B : Type 0} → (A → B) → Result (A × Cursor) (Refusal Reason) → Read B
seen_certain f (Ok x) = seen_then f x
seen_certain f (Err r) = refused (refusals.number r.reason) r.place

-- a number and the place after it
abbrev pub seen_num : Option (ℕ × Cursor) → Read ℕ
seen_num = seen (λ n. n)

-- the number of a kind
abbrev pub number_of : NameKind → ℕ
number_of kind.Weekday = names.weekday
number_of kind.Month = names.month
number_of kind.Event = names.event
number_of kind.Easter = names.easter
number_of kind.Modifier = names.modifier
number_of kind.Holiday = names.holiday
number_of kind.Week = names.week
number_of kind.Day = names.day

-- a name's kind and which of its kind it is
abbrev pub numbers : Word → names.Word
numbers w = (number_of w.kind, w.value)

abbrev pub seen_word : Option (Word × Cursor) → Read names.Word
seen_word = seen numbers

-- which name of a kind it is, and whether it calls for a warning
abbrev pub seen_named : Option (Named × Cursor) → Read (ℕ × Bool)
seen_named = seen (λ n. (n.value, n.odd))

-- the same of a name of any kind
abbrev pub seen_spelled : Option (Spelled × Cursor) → Read (names.Word × Bool)
seen_spelled = seen (λ n. (numbers n.word, n.odd))

-- the number that an answer holds, 0 where it holds none
abbrev pub value : Option (ℕ × Cursor) → ℕ
value (Some x) = x.0
value None = 0

-- the contract of a reader of numbers: r says what the definition m says, and its number is at most top
pub record Reads (top : ℕ) (m : Read ℕ) (r : Option (ℕ × Cursor)) : Type 0 where
  pub is : m ≡ seen_num r
  pub small : value r ≤ top

-- the same of a name's number
abbrev pub which : Option (Named × Cursor) → ℕ
which (Some x) = x.0.value
which None = 0

-- the contract of a reader of names of a kind
pub record ReadsName (top : ℕ) (m : Read (ℕ × Bool)) (r : Option (Named × Cursor)) : Type 0 where
  pub is : m ≡ seen_named r
  pub small : which r ≤ top
