use borrow.Author.Tests.{lt-ltb, le-ltb}
use Rattle.feed.proofs.lines.after_line.Goals as goal

pub returns-then-e-feed : goal.returns-then-e-feed
returns-then-e-feed c = rw (lt-ltb _ _ c.if-e-feed.true)

pub returns-else-e-feed : goal.returns-else-e-feed
returns-else-e-feed c = rw (le-ltb _ _ c.if-e-feed.false)
