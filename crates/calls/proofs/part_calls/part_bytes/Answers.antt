use mathlib.Core.List.{[]}
use lib.ListN.{length}
use Rattle.sheet.specs.Sheets.{words_in}
use Rattle.sheet.specs.PartReadings.{part_by, part_reading_bytes_by}
use Rattle.sheet.proofs.Readings.{part_held, into_bytes}
use Rattle.calls.proofs.part_calls.part_bytes.Goals as goal

pub returns : goal.returns
unfolding part_reading_bytes_by
returns c = let n = (words_in (length c.args.table.now)) in
    into_bytes ([], c.args.table.now) (part_by c.args.m c.args.sheet.now c.args.place n) (part_held c.args.m c.args.sheet.now c.args.place n) c.part_into.ensures
