use Rattle.std.proofs.Common.{arith}
use Rattle.rules.proofs.Laws.{ill_formed_none, ill_formed_is}
use Rattle.rules.proofs.comments.ill_formed.Goals as goal

pub returns-then-d-c : goal.returns-then-d-c
returns-then-d-c c =
    let no = ill_formed_none c.args.s.now c.args.place c.args.c.at c.inner-d.result.at c.inner-d.ensures in
    let is = ill_formed_is c.args.s.now c.args.place c.args.c.at c.inner-d.result.at c.inner-d.ensures in
    grind (arith, no, is)

pub returns : goal.returns
returns c = let is = ill_formed_is c.args.s.now c.args.place c.args.c.at c.inner-d.result.at c.inner-d.ensures in grind (arith, is)
