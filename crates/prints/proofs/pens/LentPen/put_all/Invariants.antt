-- So much of the text is written.
use Rattle.std.proofs.Common.{take}
use Rattle.prints.specs.Pens.{Writes}
use Rattle.prints.proofs.pens.LentPen.put_all.Given as goal

abbrev pub invariant-loop-b : goal.invariant-loop-b
invariant-loop-b l = Writes (take l.b-index l.text) l.fn.self l.self
