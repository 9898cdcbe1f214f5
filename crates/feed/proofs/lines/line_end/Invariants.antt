-- Byte by byte.
use mathlib.Core.Path.{◌≡◌}
use Rattle.feed.specs.Into.{line_end}
use Rattle.feed.proofs.lines.line_end.Given as goal

abbrev pub invariant-loop-e : goal.invariant-loop-e
invariant-loop-e l = line_end l.feed l.at ≡ line_end l.feed l.e
