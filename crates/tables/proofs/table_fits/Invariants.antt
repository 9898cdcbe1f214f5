use mathlib.Core.Path.{◌≡◌}
use Rattle.lent_slots.specs.Lent.{lent}
use Rattle.tables.specs.Tables.{table_fits}
use Rattle.tables.proofs.Tables.{fits_from}
use Rattle.tables.proofs.table_fits.Given as goal

abbrev pub invariant-loop-slot : goal.invariant-loop-slot
invariant-loop-slot l = table_fits (lent l.table) ≡ fits_from (lent l.table) l.n l.slot l.left
