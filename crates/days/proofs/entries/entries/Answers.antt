use native.Mathlib.Omega.{arith}
use Rattle.names.proofs.Local.{past_one}
use Rattle.days.proofs.Cut.{next_entry_alike}
use Rattle.days.proofs.entries.entries.Goals as goal

-- an entry more takes a byte at least
pub loop-more-smaller : goal.loop-more-smaller
loop-more-smaller c = omega (arith, past_one next_entry_alike c.in-Some.ensures)
