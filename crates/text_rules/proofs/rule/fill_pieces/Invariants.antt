-- The tables, with the items that are left kept after those that are, are those with the whole rule, and its first break is that of them all.
use Prim.Native.Nat.{◌-◌}
use lib.ListN.{length}
use Rattle.text_rules.proofs.Fills.{Turn}
use Rattle.text_rules.proofs.rule.fill_pieces.Given as goal

abbrev pub invariant-loop-piece : goal.invariant-loop-piece
invariant-loop-piece l = Turn l.m l.place l.separator l.start.comment l.slot l.s (l.initial.words, l.initial.bytes) l.initial.spot.stage l.initial.spot.at (l.words, l.bytes) l.judged l.n l.warned l.spot.stage l.spot.at

abbrev pub decreases-loop-piece : goal.decreases-loop-piece
decreases-loop-piece l = length l.s - l.spot.at
