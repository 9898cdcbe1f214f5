-- A tally in 136 bytes: 34 counts of 32 bits, unsigned, little-endian; another length is refused with 16.
use Rattle.std.specs.Prelude.{ℕ, zero, suc, ◌+◌, List, [], ◌∷◌, ◌++◌, eqb, length, Result, Ok, Err, if◌then◌else◌}
use Rattle.lent_slots.specs.Bytes.{little_endian}
use Rattle.lent_slots.specs.Slots.{number_from}
use Rattle.tallies.specs.Answers.{taken_in}
use Rattle.tallies.specs.declared.Answer.{Answer}
use Rattle.tallies.specs.declared.Tally.{Tally}
use Rattle.tallies.specs.declared.refusals.TallyRefusal.{TallyRefusal}
use Rattle.tallies.specs.declared.refusals.TallyRefusal.TheVariants.{NoFit}

-- n numbers in the bytes from p on
unfoldable pub numbers_from : ℕ → List ℕ → ℕ → List ℕ
numbers_from zero b p = []
numbers_from (suc n) b p = number_from b p ∷ numbers_from n b (p + 4)

abbrev pub counts_in : List ℕ → List ℕ
counts_in b = numbers_from 34 b 0

unfoldable pub bytes_of : List ℕ → List ℕ
bytes_of [] = []
bytes_of (x ∷ xs) = little_endian x ++ bytes_of xs

-- the number, and the bytes afterwards: of a refusal, as they were
abbrev pub stored_in : List ℕ → ℕ × List ℕ → ℕ × List ℕ
stored_in b r = (r.0, if eqb r.0 0 then bytes_of r.1 else b)

-- the tally that bytes hold
unfoldable pub tally_in : List ℕ → Result Tally TallyRefusal
tally_in b = if eqb (length b) 136 then Ok (record { counts = counts_in b }) else Err NoFit

unfoldable pub taken_in_bytes : List ℕ → Answer → List ℕ → ℕ × List ℕ
taken_in_bytes b a table = if eqb (length b) 136 then stored_in b (taken_in (counts_in b) a ([], table)) else (16, b)
