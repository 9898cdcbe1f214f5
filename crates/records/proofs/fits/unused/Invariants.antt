use Prim.Native.Nat.{◌+◌}
use mathlib.Core.Path.{◌≡◌}
use lib.ListN.{drop}
use Rattle.records.specs.Fits.{unused}
use Rattle.records.proofs.fits.unused.Given as goal

abbrev pub invariant-loop-x : goal.invariant-loop-x
invariant-loop-x l = unused (drop l.k l.fn.w) ≡ unused (drop (l.k + l.x-index) l.fn.w)
