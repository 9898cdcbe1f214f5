use Rattle.std.proofs.Common.{◌/◌, length, arith}
use Rattle.touched.proofs.DayLaws.{day_known}
use Rattle.touched.proofs.days.answer_days.Goals as goal

pub on_day-requires : goal.on_day-requires
on_day-requires c =
    let known = day_known c.args.b.now (length c.args.b.now / 12) c.loop-i.i (omega arith) c.loop-i.invariant.possible_ahead in
    rw c.day_at.ensures (record { known = known.0; year_bound = known.1 })
