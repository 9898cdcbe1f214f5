-- What an answer of the code says, in the definitions' terms.
use Rattle.std.specs.Prelude.{ℕ, Option, Result}
use Rattle.names.specs.Read.{Read}
use Rattle.names.specs.Seen.{seen_by, seen_judged}
use Rattle.names.specs.declared.Cursor.{Cursor}
use Rattle.names.specs.declared.refusals.Reason.{Reason}
use Rattle.names.specs.declared.refusals.Refusal.{Refusal}
use Rattle.records.specs.declared.Item.{Item}

-- an item and the place after it, or why there is none; n is the number of why
abbrev pub seen_item_by : {R : Type 0} → (R → ℕ) → Result (Option (Item × Cursor)) (Refusal R) → Read Item
seen_item_by n = seen_by n (λ a. a)

-- refused by a reason
abbrev pub seen_item : Result (Option (Item × Cursor)) (Refusal Reason) → Read Item
seen_item = seen_judged (λ a. a)
