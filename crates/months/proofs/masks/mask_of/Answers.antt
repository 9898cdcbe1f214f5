use Rattle.std.proofs.Common.{arith}
use Rattle.months.specs.Masks.{month_in}
use Rattle.months.proofs.Laws.{masked_more}
use Rattle.months.proofs.masks.mask_of.Goals as goal

pub loop-m-preserved : goal.loop-m-preserved
loop-m-preserved c =
    rw (c.from-in-loop-m.ensures, c.from.ensures)
    (masked_more (month_in c.args.can) c.loop-m.m c.loop-m.mask (omega arith) (omega arith) c.loop-m.invariant.0 c.loop-m.invariant.1)
