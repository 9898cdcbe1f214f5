use native.Mathlib.Omega.{arith}
use mathlib.Core.Bool.{true}
use mathlib.Core.Path.{◌≡◌}
use Rattle.tallies.specs.Sums.{all_within}
use Rattle.tallies.proofs.Adds.{held_within}
use Rattle.tallies.proofs.Counting.{record_steps}
use Rattle.tallies.proofs.totals.counted.Goals as goal

pub returns-then-not-between : goal.returns-then-not-between
returns-then-not-between c = let within : all_within c.args.c ≡ true = held_within c.args.c _ c.well_formed.0 in grind (arith, record_steps)

pub returns : goal.returns
returns c = let within : all_within c.args.c ≡ true = held_within c.args.c _ c.well_formed.0 in grind (arith, record_steps)
