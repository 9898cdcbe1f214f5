use Rattle.sheet_texts.specs.Times.{plus_or_minus}
use Rattle.pen.proofs.Pours.{these}
use Rattle.pen.proofs.plus_or_minus.Goals as goal
use Rattle.pen.proofs.plus_or_minus.Goals.{then-negative, else-negative}

pub returns : goal.returns
unfolding plus_or_minus
returns c = elim c.if-negative.branch [
  | then-negative w ↦ rw w.if-negative.true (these (rw w.put-is at c.put.ensures))
  | else-negative w ↦ rw w.if-negative.false (these (rw w.put-is at c.put.ensures))
]
