use borrow.Author.Rules.{rules}
use borrow.Author.Tests.{lt-ltb, le-ltb}
use Prim.Native.Nat.{◌/◌}
use native.Mathlib.Omega.{arith}
use Rattle.feed.specs.Into.{free_from}
use Rattle.feed.proofs.Slots.{free_slot}
use Rattle.feed.proofs.feeds.free_from.Goals as goal

pub overflow_mul-result : goal.overflow_mul-result
unfolding free_from
overflow_mul-result c = record { fits = omega (arith, free_slot c.args.len c.args.width c.args.slot (search rules) c.if-slot-len.true) }

pub returns-then-slot-len : goal.returns-then-slot-len
unfolding free_from
returns-then-slot-len c = (rw (lt-ltb c.args.slot (c.args.len / c.args.width) c.if-slot-len.true), omega (arith, free_slot c.args.len c.args.width c.args.slot (search rules) c.if-slot-len.true))

pub returns-else-slot-len : goal.returns-else-slot-len
unfolding free_from
returns-else-slot-len c = (rw (le-ltb c.args.slot (c.args.len / c.args.width) c.if-slot-len.false), omega arith)
