use Prim.Native.Nat.{◌/◌}
use mathlib.Core.List.{[]}
use lib.ListN.{length}
use Rattle.sheet.specs.Sheets.{words_in}
use Rattle.feed.specs.Feeds.{feed_of, feed_reading_bytes}
use Rattle.feed.proofs.Readings.{feed_fits, in_bytes_lem}
use Rattle.feed.proofs.feeds.read_feed_bytes.Goals as goal

pub returns : goal.returns
unfolding feed_reading_bytes
returns c = let places = length c.args.answers.now / 16 in
    let size = words_in (length c.args.table.now) in
    in_bytes_lem ([], c.args.answers.now) ([], c.args.table.now) (feed_of c.args.feed.now places size) c.feed_into.ensures (feed_fits c.args.feed.now places size)
