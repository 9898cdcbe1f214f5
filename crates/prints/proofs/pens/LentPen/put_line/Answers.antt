use Rattle.std.proofs.Common.{rules, arith, ap, sym, ◌∙◌, get_or, pos}
use Rattle.std.proofs.lemmas.List.{take_more, take_all}
use mir.Syntax.{w32}
use mir.Facts.{to_z-of_z}
use Rattle.prints.proofs.Lines.{spaced, spaced_more, line_none, line_of}
use Rattle.prints.proofs.Writing.{nothing, then, same, most}
use Rattle.prints.proofs.pens.LentPen.put_line.Goals as goal

pub returns-in_default-clause-whole : goal.returns-in_default-clause-whole
returns-in_default-clause-whole c = same (nothing c.args.self.now (search rules) (search rules)) (line_none c.args.words.now c.in_default.ensures.cases)

pub loop-w-init : goal.loop-w-init
unfolding spaced
loop-w-init c = (omega arith, nothing c.args.self.now (search rules) (search rules))

pub loop-w-preserved : goal.loop-w-preserved
loop-w-preserved c =
    let ws = c.in-Some.others.now in
    let i = c.loop-w.w-index in
    let word = get_or ws i (pos 0) in
    let all = then (then c.loop-w.invariant.1 (rw (to_z-of_z {w = w32} {z = word} (search rules)) at c.put_word.ensures.whole)) c.put.ensures in
    (omega (arith, c.loop-w.invariant.0, c.put_word.ensures.most, most c.put.ensures), same all (sym (ap spaced (take_more ws i (pos 0) c.loop-w-test.true) ∙ spaced_more _ word)))

pub returns-clause-most : goal.returns-clause-most
returns-clause-most c = omega (arith, c.in-Some.ensures.cases.1, c.loop-w.invariant.0, c.put_word-2.ensures.most, most c.put-2.ensures)

pub returns-clause-whole : goal.returns-clause-whole
returns-clause-whole c =
    let last = c.in-Some.last.now in
    let others = rw (take_all c.loop-w.w-index c.in-Some.others.now c.loop-w-test.false) at c.loop-w.invariant.1 in
    let all = then (then others (rw (to_z-of_z {w = w32} {z = last} (search rules)) at c.put_word-2.ensures.whole)) c.put-2.ensures in
    rw c.in-Some.ensures.cases.0 (same all (sym (line_of c.in-Some.others.now last)))
