use borrow.Author.Tests.{eq-eqb, ne_eqb}
use native.Mathlib.Omega.{arith}
use lib.Dec.{eqb}
use Rattle.names.specs.Texts.{byte}
use Rattle.names.proofs.Laws.{one_got, one_other, one_past}
use Rattle.names.proofs.Cursor.sign.Goals as goal

pub returns-then-s-at : goal.returns-then-s-at
unfolding byte
returns-then-s-at c = rw (one_past (eqb c.args.b) c.args.s.now c.args.self.at c.if-s-at.true)

pub returns-then-b-s : goal.returns-then-b-s
unfolding byte
returns-then-b-s c = rw (one_other (eqb c.args.b) c.args.s.now c.args.self.at (omega arith) (ne_eqb _ _ c.if-b-s.true))

pub returns : goal.returns
unfolding byte
returns c = rw (one_got (eqb c.args.b) c.args.s.now c.args.self.at (omega arith) (eq-eqb _ _ c.if-b-s.false))
