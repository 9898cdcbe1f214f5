use native.Mathlib.Omega.{arith}
use mathlib.Core.Path.{◌≡◌, sym, ◌∙◌}
use Rattle.parts.proofs.Laws.{part_begin, part_stop, part_quoted, part_more, part_done}
use Rattle.parts.proofs.part_end.Goals as goal
use Rattle.parts.proofs.part_end.Goals.{then-b-ne59, else-b-ne59+else-not-inside}

pub loop-i-init : goal.loop-i-init
loop-i-init c = record { is = part_begin c.args.s.now c.args.p; near = omega arith }

pub returns-then-not-inside : goal.returns-then-not-inside
returns-then-not-inside c = sym (c.loop-i.invariant.is ∙ part_stop c.loop-i.inside c.args.s.now c.loop-i.i (omega arith) c.if-b-ne59.false c.if-not-inside.true)

pub loop-i-preserved : goal.loop-i-preserved
loop-i-preserved c = record {
  is = c.loop-i.invariant.is ∙ elim c.if-b-ne59.branch [
    | then-b-ne59 w ↦ part_more c.loop-i.inside _ c.args.s.now c.loop-i.i (omega arith) w.if-b-ne59.true (w.inside-is ∙ w.flips-inside.ensures)
    | else-b-ne59+else-not-inside w ↦ part_quoted c.loop-i.inside _ c.args.s.now c.loop-i.i (omega arith) w.if-b-ne59.false w.if-not-inside.false w.inside-is
  ];
  near = omega arith;
}

pub returns : goal.returns
returns c = let e : c.loop-i.i ≡ c.max.result = omega arith in sym (c.loop-i.invariant.is ∙ part_done c.loop-i.inside c.args.s.now c.loop-i.i (omega arith) ∙ e)
