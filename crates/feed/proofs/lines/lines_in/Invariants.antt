-- Line by line.
use Prim.Native.Nat.{◌+◌, ◌-◌, ◌≤◌}
use mathlib.Core.Path.{◌≡◌}
use lib.ListN.{length, drop}
use Rattle.feed.specs.Lines.{lines}
use Rattle.feed.proofs.lines.lines_in.Given as goal

abbrev pub invariant-loop-at : goal.invariant-loop-at
invariant-loop-at l = (l.n ≤ l.at) × (l.at ≤ length l.feed) × (length (lines l.feed) ≡ l.n + length (lines (drop l.at l.feed)))

abbrev pub decreases-loop-at : goal.decreases-loop-at
decreases-loop-at l = length l.feed - l.at
