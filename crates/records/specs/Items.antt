-- An item: its longest shape is read, and then judged (docs/RULES.md, 3).
use Rattle.std.specs.Prelude.{ℕ, Bool, leb, ℤ, pos, neg_ℤ, Result, Ok, Err, if◌then◌else◌}
use Rattle.names.specs.Read.{Reader, pure, refuse, here, ◌>>=◌}
use Rattle.records.specs.declared.Item.{Item}
use Rattle.names.specs.Refusals.{number}
use Rattle.names.specs.declared.refusals.Reason.{Reason}

-- what a shape comes to when it is judged: an item, or why it is refused
abbrev pub Meant : Type 0
Meant = Result Item Reason

-- a judgement: the item, or a refusal at the item's first byte p; n is the number of why
abbrev pub judged_by : {R : Type 0} → (R → ℕ) → ℕ → Result Item R → Reader Item
judged_by n p (Ok a) = pure a
judged_by n p (Err k) = refuse (n k) p

-- refused by a reason
abbrev pub judged : ℕ → Meant → Reader Item
judged = judged_by number

-- the item that begins at p: a shape is read whole, and its meaning is judged
abbrev pub meant : {R : Type 0} → ℕ → Reader R → (R → Meant) → Reader Item
meant p shape meaning = do
  r ← shape
  judged p (meaning r)

-- an item: its longest shape, judged
abbrev pub item : {R : Type 0} → Reader R → (R → Meant) → Reader Item
item shape meaning = do
  p ← here
  meant p shape meaning

-- N: 0 to 32,767
abbrev pub good_count : ℕ → Bool
good_count n = leb n 32767

-- a number that is added, or taken off
abbrev pub signed : Bool → ℕ → ℤ
signed negative n = if negative then neg_ℤ (pos n) else pos n
