-- A refusal leaves everything as it was.
use Rattle.std.specs.Prelude.{ℕ, List, ◌≡◌}

-- a number other than 0 gives 0 records, 0 warnings, and the table after the call is the one before it
abbrev pub Untouched : {A : Type 0} → ℕ → ℕ → ℕ → List A → List A → Type 0
Untouched number records warnings before after = (number ≡ 0 → ⊥) → (records ≡ 0) × (warnings ≡ 0) × (after ≡ before)
