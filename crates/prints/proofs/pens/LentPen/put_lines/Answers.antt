use Rattle.std.proofs.Common.{rules, arith, ap, sym, ◌∙◌, [], get_or}
use Rattle.std.proofs.lemmas.List.{take_more, take_all}
use Rattle.prints.specs.Lines.{lines}
use Rattle.prints.proofs.Lines.{lines_more}
use Rattle.prints.proofs.Writing.{nothing, then, same}
use Rattle.prints.proofs.pens.LentPen.put_lines.Goals as goal

pub loop-words-init : goal.loop-words-init
unfolding lines
loop-words-init c = (omega arith, nothing c.args.self.now (search rules) (search rules))

pub loop-words-preserved : goal.loop-words-preserved
loop-words-preserved c =
    let rs = c.args.records.now in
    let i = c.loop-words.words-index in
    (omega (arith, c.told-records i c.loop-words-test.true, c.loop-words.invariant.0, c.put_line.ensures.most), same (then c.loop-words.invariant.1 c.put_line.ensures.whole) (sym (ap lines (take_more rs i [] c.loop-words-test.true) ∙ lines_more _ (get_or rs i []))))

pub returns-clause-whole : goal.returns-clause-whole
returns-clause-whole c = rw (take_all c.loop-words.words-index c.args.records.now c.loop-words-test.false) at c.loop-words.invariant.1
