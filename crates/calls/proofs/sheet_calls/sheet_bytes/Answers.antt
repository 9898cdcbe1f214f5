use mathlib.Core.List.{[]}
use lib.ListN.{length}
use Rattle.sheet.specs.Sheets.{sheet_by, sheet_reading_bytes_by, words_in}
use Rattle.sheet.proofs.Readings.{sheet_held, into_bytes}
use Rattle.calls.proofs.sheet_calls.sheet_bytes.Goals as goal

pub returns : goal.returns
unfolding sheet_reading_bytes_by
returns c = let n = (words_in (length c.args.table.now)) in
    into_bytes ([], c.args.table.now) (sheet_by c.args.m c.args.sheet.now n) (sheet_held c.args.m c.args.sheet.now n) c.sheet_into.ensures
