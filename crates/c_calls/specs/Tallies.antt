-- The calls for C on tallies of 136 bytes: the number that each returns, and the tally's bytes afterwards.
use Rattle.std.specs.Prelude.{ℕ, List}
use Rattle.tallies.specs.Stored.{taken_in_bytes}
use Rattle.tallies.specs.Joins.{joined_bytes}

-- an answer's numbers, and its records in a table of bytes
abbrev pub add_call : List ℕ → ℕ → ℕ → ℕ → ℕ → List ℕ → ℕ × List ℕ
add_call tally number place records warnings table =
    taken_in_bytes tally (record { number = number; place = place; records = records; warnings = warnings }) table

abbrev pub join_call : List ℕ → List ℕ → ℕ × List ℕ
join_call = joined_bytes
