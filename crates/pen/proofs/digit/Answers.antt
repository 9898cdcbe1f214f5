use Rattle.sheet_texts.specs.Numbers.{last_digits}
use Rattle.pen.proofs.Pours.{these}
use Rattle.pen.proofs.digit.Goals as goal

pub returns : goal.returns
unfolding last_digits
returns c = these c.put.ensures
