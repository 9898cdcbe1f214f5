use mathlib.Core.Path.{◌≡◌}
use Rattle.names.specs.Table.{first_in, rows}
use Rattle.names.specs.Seen.{number_of}
use Rattle.names.proofs.Lists.{from_name}
use Rattle.names.proofs.Cursor.one_of.Given as goal

-- what is left to search gives what the whole search gives
abbrev pub invariant-loop-row : goal.invariant-loop-row
invariant-loop-row g l = first_in (rows (number_of l.kind) l.first l.names) l.s l.self.at ≡ from_name (number_of l.kind) l.first l.names l.s l.self.at l.row
