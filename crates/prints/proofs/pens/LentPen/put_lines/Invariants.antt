-- So many lines are written.
use Rattle.std.proofs.Common.{◌+◌, ◌*◌, ◌≤◌, take}
use Rattle.prints.specs.Lines.{lines}
use Rattle.prints.specs.Pens.{Writes}
use Rattle.prints.proofs.pens.LentPen.put_lines.Given as goal

abbrev pub invariant-loop-words : goal.invariant-loop-words
invariant-loop-words l = (l.self.at ≤ l.fn.self.at + 192 * l.words-index) × Writes (lines (take l.words-index l.records)) l.fn.self l.self
