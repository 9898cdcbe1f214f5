-- The lines of an output.
use Prim.Native.Nat.{ℕ, zero, suc, ◌≤◌}
use Prim.Native.Char.{code}
use mathlib.Core.List.{List, [], ◌∷◌, ◌++◌, append_assoc}
use mathlib.Core.Path.{◌≡◌, refl, ap}
use native.Mathlib.Omega.{arith}
use lib.IntN.{ℤ}
use lib.ListN.{take, drop}
use Rattle.std.specs.Simd.{first_chunks}
use Rattle.sheet.specs.declared.Answer.{Answer}
use Rattle.prints.specs.Decimals.{decimal, signed}
use Rattle.prints.specs.Lines.{line}
use Rattle.outputs.specs.Outputs.{numbers_of}
use Rattle.lent_slots.specs.Tables.{records_in}

-- a number and the byte after it
abbrev ended : ℕ → ℕ → List ℕ
ended n end = decimal n ++ (end ∷ [])

-- the answer's line is four of them
pub answer_line : (a : Answer) → ((ended a.number (code " ") ++ ended a.place (code " ")) ++ ended a.records (code " ")) ++ ended a.warnings (code "\n") ≡ line (numbers_of a)
unfolding line signed
answer_line a = simp append_assoc

-- a table's first records are those of its chunks
pub records_first : (n m : ℕ) (t : List ℤ) → n ≤ m → take n (first_chunks 16 m t) ≡ records_in n t
unfolding records_in
records_first zero m t h = refl
records_first (suc n) zero t h = absurd (omega arith)
records_first (suc n) (suc m) t h = ap (λ (rs : List (List ℤ)). take 16 t ∷ rs) (records_first n m (drop 16 t) (omega arith))
