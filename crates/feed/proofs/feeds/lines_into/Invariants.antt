-- Line by line.
-- ---- the places of a turn: at the loop's test, after the line's end is found, after the line is read, after its answer is kept, after the next line's place is found
-- ---- what holds there
use Prim.Native.Nat.{◌*◌, ◌-◌, ◌≤◌}
use mathlib.Core.Path.{◌≡◌}
use lib.ListN.{length, drop}
use Rattle.feed.specs.Lines.{lines}
use Rattle.feed.specs.Feeds.{readings, all_of}
use Rattle.feed.specs.Into.{feed_into}
use Rattle.feed.proofs.Readings.{up_to}
use Rattle.feed.proofs.feeds.lines_into.Given as goal

abbrev pub invariant-loop-at : goal.invariant-loop-at
invariant-loop-at l = (l.n ≤ l.at) × (l.at ≤ length l.feed) × (l.records * 16 ≤ l.size)
    × (length l.answer_words ≡ length l.initial.answer_words) × (length l.answer_bytes ≡ length l.initial.answer_bytes) × (length l.words ≡ length l.initial.words) × (length l.bytes ≡ length l.initial.bytes)
    × (feed_into (l.initial.answer_words, l.initial.answer_bytes) (l.initial.words, l.initial.bytes) (all_of (readings (lines l.feed) l.size)) ≡ up_to (l.answer_words, l.answer_bytes) (l.words, l.bytes) l.n l.records
    (readings (lines (drop l.at l.feed)) (l.size - l.records * 16)))

abbrev pub decreases-loop-at : goal.decreases-loop-at
decreases-loop-at l = length l.feed - l.at
