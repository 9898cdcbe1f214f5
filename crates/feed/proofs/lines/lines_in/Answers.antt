-- Line by line.
use borrow.Author.Rules.{rules}
use native.Mathlib.Omega.{arith}
use native.Mathlib.Nat.{zero-add}
use mathlib.Core.Path.{sym, ap}
use lib.ListN.{length}
use Rattle.feed.specs.Lines.{lines}
use Rattle.feed.proofs.LineLaws.{Turn, turn, lines_none}
use Rattle.feed.proofs.lines.lines_in.Goals as goal

pub loop-at-init : goal.loop-at-init
loop-at-init c = (search rules, search rules, sym (zero-add (length (lines c.args.feed.now))))

pub loop-at-smaller : goal.loop-at-smaller
loop-at-smaller c = let h = (let told : Turn c.args.feed.now c.loop-at.at c.line_end.result c.after_line-at.result = turn _ _ c.loop-at-test.true c.line_end.ensures c.after_line-at.ensures in told) in omega arith

pub loop-at-preserved : goal.loop-at-preserved
loop-at-preserved c = let h = (let told : Turn c.args.feed.now c.loop-at.at c.line_end.result c.after_line-at.result = turn _ _ c.loop-at-test.true c.line_end.ensures c.after_line-at.ensures in told) in (omega arith, h.fits, omega (arith, c.loop-at.invariant.2, ap length h.first))

pub returns : goal.returns
returns c = omega (arith, c.loop-at.invariant.2, ap length (lines_none c.args.feed.now c.loop-at.at c.loop-at-test.false))
