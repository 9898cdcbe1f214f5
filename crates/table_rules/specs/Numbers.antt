-- Numbers written over lent bytes, four to a number, the lowest first.
use Rattle.std.specs.Prelude.{ℕ, suc, ◌*◌, List, [], ◌∷◌}
use Rattle.std.proofs.lemmas.List.Edits.{sets}
use Rattle.lent_slots.specs.Bytes.{little_endian}

-- from place k on, counted in numbers; what is before and after them stays
unfoldable pub written : List ℕ → ℕ → List ℕ → List ℕ
written b k [] = b
written b k (n ∷ ns) = written (sets b (k * 4) (little_endian n)) (suc k) ns
