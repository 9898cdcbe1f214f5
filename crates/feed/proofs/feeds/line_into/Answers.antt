use Rattle.sheet.specs.Sheets.{sheet_of}
use Rattle.names.specs.declared.Manner.TheVariants.{First}
use Rattle.sheet.proofs.Readings.{sheet_whole}
use Rattle.feed.proofs.Readings.{line_from}
use Rattle.feed.proofs.feeds.line_into.Goals as goal

pub returns : goal.returns
returns c = line_from c.args.words.now c.args.bytes.now c.args.slot c.free_from-w.result c.free_from-b.result (sheet_of c.args.line.now c.args.size)
    c.free_from-w.ensures c.free_from-b.ensures (rw (sheet_whole First c.args.line.now c.args.size) at c.sheet_into.ensures)
