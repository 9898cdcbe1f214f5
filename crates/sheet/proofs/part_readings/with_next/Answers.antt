use native.Mathlib.Omega.{arith}
use native.Mathlib.Numerals.{add-one}
use mathlib.Core.Path.{◌∙◌}
use lib.ListN.{length}
use borrow.Author.Tests.{lt-ltb, le-ltb}
use Rattle.sheet.specs.PartReadings.{with_next}
use Rattle.sheet.proofs.part_readings.with_next.Goals as goal

pub returns-then-e-s : goal.returns-then-e-s
unfolding with_next
returns-then-e-s c = c.part_answer_of.ensures ∙ rw (lt-ltb c.args.e (length c.args.s.now) c.if-e-s.true, add-one c.args.e)

pub returns-else-e-s : goal.returns-else-e-s
unfolding with_next
returns-else-e-s c = c.part_answer_of-else-e-s.ensures ∙ rw (le-ltb c.args.e (length c.args.s.now) (omega arith))
