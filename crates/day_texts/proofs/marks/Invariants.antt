-- The marks of so many bits are written.
use Rattle.day_texts.specs.Marks.{Marks}
use Rattle.day_texts.proofs.Laws.{marks_below}
use Rattle.day_texts.proofs.marks.Given as goal

abbrev pub invariant-loop-k : goal.invariant-loop-k
invariant-loop-k l = Marks (marks_below l.negative l.bits l.k) l.fn.alone l.fn.p l.alone l.p
