-- So many words are written.
use Rattle.std.proofs.Common.{◌+◌, ◌*◌, ◌≤◌, take}
use Rattle.prints.specs.Pens.{Writes}
use Rattle.prints.proofs.Lines.{spaced}
use Rattle.prints.proofs.pens.LentPen.put_line.Given as goal

abbrev pub invariant-loop-w : goal.invariant-loop-w
invariant-loop-w l = (l.self.at ≤ l.fn.self.at + 12 * l.w-index) × Writes (spaced (take l.w-index l.others)) l.fn.self l.self
