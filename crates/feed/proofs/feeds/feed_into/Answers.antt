use Prim.Native.Nat.{◌≤◌, ◌<◌}
use native.Mathlib.Omega.{arith}
use mathlib.Core.Path.{◌∙◌}
use lib.ListN.{length}
use Rattle.feed.specs.Lines.{lines}
use Rattle.feed.proofs.Readings.{feed_few, feed_lines}
use Rattle.feed.proofs.feeds.feed_into.Goals as goal

pub returns-then-places-lines_in : goal.returns-then-places-lines_in
returns-then-places-lines_in c = let few : c.args.places < length (lines c.args.feed.now) = omega (arith, c.if-places-lines_in.true, c.lines_in.ensures) in
    feed_few (c.args.answer_words.now, c.args.answer_bytes.now) (c.args.words.now, c.args.bytes.now) c.args.feed.now c.args.places c.args.size few

pub returns : goal.returns
returns c = let fit : length (lines c.args.feed.now) ≤ c.args.places = omega (arith, c.if-places-lines_in.false, c.lines_in.ensures) in
    c.lines_into.ensures ∙ feed_lines (c.args.answer_words.now, c.args.answer_bytes.now) (c.args.words.now, c.args.bytes.now) c.args.feed.now c.args.places c.args.size fit
