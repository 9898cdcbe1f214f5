use Rattle.sheet_texts.specs.Numbers.{last_digits, two}
use Rattle.pen.proofs.Pours.{◌next◌}
use Rattle.pen.proofs.two.Goals as goal

pub returns : goal.returns
unfolding last_digits two
returns c = c.digit.ensures next c.digit-2.ensures
