-- What is counted, kept and judged, and the rules that are left, are the rules of the whole text.
use Prim.Native.Nat.{◌-◌}
use lib.ListN.{length}
use Rattle.text_rules.proofs.Turns.{Filling}
use Rattle.text_rules.proofs.texts.fill_rules.Given as goal

abbrev pub invariant-loop-read : goal.invariant-loop-read
invariant-loop-read l = Filling l.m l.s l.p (l.initial.words, l.initial.bytes) (l.words, l.bytes) l.slot l.warned l.at l.separator l.broken

abbrev pub decreases-loop-read : goal.decreases-loop-read
decreases-loop-read l = length l.s - l.at
