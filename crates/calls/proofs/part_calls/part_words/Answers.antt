use mathlib.Core.List.{[]}
use lib.ListN.{length}
use Rattle.sheet.specs.PartReadings.{part_by, part_reading_by}
use Rattle.sheet.proofs.Readings.{part_held, part_whole, into_words}
use Rattle.calls.proofs.part_calls.part_words.Goals as goal

pub returns : goal.returns
unfolding part_reading_by
returns c = let n = (length c.args.table.now) in
    into_words (c.args.table.now, []) (part_by c.args.m c.args.sheet.now c.args.place n) (part_held c.args.m c.args.sheet.now c.args.place n)
    (rw (part_whole c.args.m c.args.sheet.now c.args.place n) at c.part_into.ensures)
