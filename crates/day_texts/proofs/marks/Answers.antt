use borrow.Author.Rules.{rules}
use mathlib.Core.List.{append-nil}
use mathlib.Core.Path.{◌≡◌}
use native.Mathlib.Omega.{arith}
use mir.Syntax.{w16}
use mir.Facts.{to_z-of_z}
use Rattle.day_texts.proofs.Laws.{marks_below, marks_all, marks_more, mark_set, mark_clear, no_marks, marks_next, first_mark, later_mark}
use Rattle.day_texts.proofs.marks.Goals as goal
use Rattle.day_texts.proofs.marks.Goals.{then-bits-k-eq1, then-not-alone, else-not-alone, else-bits-k-eq1}

pub loop-k-init : goal.loop-k-init
unfolding marks_below
loop-k-init c = no_marks c.args.alone c.args.p.now

pub loop-k-preserved : goal.loop-k-preserved
loop-k-preserved c =
    let negative = c.args.negative in
    let bits = c.args.bits in
    let k = c.loop-k.k in
    let before = c.loop-k.invariant in
    rw (marks_more negative bits k) (elim c.if-bits-k-eq1.branch [
      | then-bits-k-eq1 w ↦
          let mark = rw (to_z-of_z {w = w16} {z = w.signed.result} (search rules), w.signed.ensures) at w.one_mark.ensures in
          rw (w.p-is, w.alone-is, mark_set negative bits k w.if-bits-k-eq1.true) (elim w.if-not-alone.branch [
            | then-not-alone x ↦ marks_next (rw x.if-not-alone.true at before) (later_mark x.put.ensures (rw x.p-is at mark))
            | else-not-alone x ↦ marks_next (rw x.if-not-alone.false at before) (first_mark (rw x.p-is at mark))
          ])
      | else-bits-k-eq1 w ↦ rw (w.p-is, w.alone-is, mark_clear negative bits k w.if-bits-k-eq1.false, append-nil) before
    ])

pub returns : goal.returns
returns c = let k : c.loop-k.k ≡ 5 = omega (arith, c.loop-k-test.false) in rw (k, marks_all c.args.negative c.args.bits) at c.loop-k.invariant
