use Rattle.prints.proofs.Writing.{then, same}
use Rattle.outputs.proofs.Laws.{answer_line}
use Rattle.outputs.proofs.put_answer.Goals as goal

pub returns-clause-whole : goal.returns-clause-whole
returns-clause-whole c =
    let number = rw c.from.ensures at c.put_ended.ensures.whole in
    same (then (then (then number c.put_ended-2.ensures.whole) c.put_ended-3.ensures.whole) c.put_ended-4.ensures.whole) (answer_line c.args.a)
