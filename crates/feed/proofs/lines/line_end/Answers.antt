-- Byte by byte.
use borrow.Author.Rules.{rules}
use native.Mathlib.Omega.{arith}
use mathlib.Core.Path.{◌≡◌, sym, ◌∙◌}
use lib.ListN.{length}
use Rattle.feed.proofs.LineLaws.{end_more, end_here, end_last}
use Rattle.feed.proofs.lines.line_end.Goals as goal

pub returns-then-feed-e-eq-LINE_FEED : goal.returns-then-feed-e-eq-LINE_FEED
returns-then-feed-e-eq-LINE_FEED c = end_here _ c.loop-e.e (search rules) c.if-feed-e-eq-LINE_FEED.true ∙ sym c.loop-e.invariant

pub loop-e-preserved : goal.loop-e-preserved
loop-e-preserved c = c.loop-e.invariant ∙ end_more _ c.loop-e.e (search rules) c.if-feed-e-eq-LINE_FEED.false

pub returns : goal.returns
returns c = let whole : c.loop-e.e ≡ length c.args.feed.now = omega (arith, c.loop-e.auto.e-end) in rw (← whole) (end_last _ c.loop-e.e c.loop-e-test.false ∙ sym c.loop-e.invariant)
