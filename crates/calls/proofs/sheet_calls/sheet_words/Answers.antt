use mathlib.Core.List.{[]}
use lib.ListN.{length}
use Rattle.sheet.specs.Sheets.{sheet_by, sheet_reading_by}
use Rattle.sheet.proofs.Readings.{sheet_held, sheet_whole, into_words}
use Rattle.calls.proofs.sheet_calls.sheet_words.Goals as goal

pub returns : goal.returns
unfolding sheet_reading_by
returns c = let n = (length c.args.table.now) in
    into_words (c.args.table.now, []) (sheet_by c.args.m c.args.sheet.now n) (sheet_held c.args.m c.args.sheet.now n) (rw (sheet_whole c.args.m c.args.sheet.now n) at c.sheet_into.ensures)
