use native.Mathlib.Omega.{arith}
use mathlib.Core.Bool.{true}
use mathlib.Core.Path.{◌∙◌}
use Rattle.names.proofs.Local.{past_one}
use Rattle.utf8.proofs.Cut.{letter_ended}
use Rattle.utf8.proofs.Repeats.{letters_more, letters_stop}
use Rattle.utf8.proofs.letters.Goals as goal

pub loop-next-smaller : goal.loop-next-smaller
loop-next-smaller c = omega (arith, past_one (letter_ended {a = true}) c.in-Some.ensures)

pub loop-next-preserved : goal.loop-next-preserved
loop-next-preserved c = c.loop-next.invariant ∙ letters_more c.args.s.now c.loop-next.c.at c.in-Some.ensures

pub returns : goal.returns
returns c = c.loop-next.invariant ∙ letters_stop c.args.s.now c.loop-next.c.at c.in_default.ensures
