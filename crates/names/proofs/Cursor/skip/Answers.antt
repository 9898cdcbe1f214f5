use native.Mathlib.Omega.{arith}
use borrow.Author.Rules.{rules}
use borrow.Author.Tests.{tests}
use native.Mathlib.Numerals.{add-one}
use mathlib.Core.Bool.{true, false}
use mathlib.Core.Path.{◌≡◌, refl, sym, ap, ◌∙◌}
use lib.ListN.{get_or}
use Rattle.names.specs.Tests.{within}
use Rattle.names.specs.Chain.{skip}
use Rattle.names.proofs.Skips.{skip_more, skip_stop, skip_end}
use Rattle.names.proofs.Cursor.skip.Goals as goal

pub loop-at-init : goal.loop-at-init
loop-at-init c = refl

pub loop-at-preserved : goal.loop-at-preserved
unfolding within
loop-at-preserved c =
    let passes = within c.args.lo c.args.hi in
    let inside : passes (get_or c.args.s.now c.loop-at.at 0) ≡ true = search (rules, tests) in
    c.loop-at.invariant ∙ skip_more passes c.args.s.now c.loop-at.at (omega arith) inside ∙ ap (skip passes c.args.s.now) (sym (add-one c.loop-at.at))

pub returns-else-contains : goal.returns-else-contains
unfolding within
returns-else-contains c =
    let outside : within c.args.lo c.args.hi (get_or c.args.s.now c.loop-at.at 0) ≡ false = search (rules, tests) in
    c.loop-at.invariant ∙ skip_stop (within c.args.lo c.args.hi) c.args.s.now c.loop-at.at (omega arith) outside

pub returns-after-loop-at : goal.returns-after-loop-at
returns-after-loop-at c = c.loop-at.invariant ∙ skip_end (within c.args.lo c.args.hi) c.args.s.now c.loop-at.at (omega arith)
