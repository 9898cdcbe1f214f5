use native.Mathlib.Numerals.{add-one}
use mathlib.Core.Path.{sym, ap, ◌∙◌}
use lib.ListN.{get_or, take}
use Rattle.names.specs.Quotes.{flips, inside_of}
use Rattle.parts.proofs.Laws.{inside_none, inside_next}
use Rattle.parts.proofs.inside_of.Goals as goal

pub loop-b-init : goal.loop-b-init
loop-b-init c = inside_none c.args.s.now

pub loop-b-preserved : goal.loop-b-preserved
loop-b-preserved c = c.flips-inside.ensures ∙ ap (flips (get_or c.args.s.now c.loop-b.b-index 0)) c.loop-b.invariant ∙ inside_next c.args.s.now c.loop-b.b-index c.loop-b-test.true ∙ ap (λ j. inside_of (take j c.args.s.now)) (sym (add-one c.loop-b.b-index))
