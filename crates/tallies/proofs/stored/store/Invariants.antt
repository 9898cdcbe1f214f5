use Prim.Native.Nat.{◌*◌}
use mathlib.Core.Path.{◌≡◌}
use lib.ListN.{drop}
use lib.Seq.{sets}
use Rattle.tallies.specs.Stored.{bytes_of}
use Rattle.tallies.proofs.stored.store.Given as goal

abbrev pub invariant-loop-i : goal.invariant-loop-i
invariant-loop-i l = sets l.initial.b 0 (bytes_of l.fn.c) ≡ sets l.b (l.i * 4) (bytes_of (drop l.i l.fn.c))
