use Prim.Native.Nat.{◌/◌}
use mathlib.Core.List.{[]}
use lib.ListN.{length}
use Rattle.feed.specs.Feeds.{feed_of, feed_reading}
use Rattle.feed.proofs.Readings.{feed_fits, in_words}
use Rattle.feed.proofs.feeds.read_feed.Goals as goal

pub returns : goal.returns
unfolding feed_reading
returns c = let places = length c.args.answers.now / 4 in
    let size = length c.args.table.now in
    in_words (c.args.answers.now, []) (c.args.table.now, []) (feed_of c.args.feed.now places size) c.feed_into.ensures (feed_fits c.args.feed.now places size)
