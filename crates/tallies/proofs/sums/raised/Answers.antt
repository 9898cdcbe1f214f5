use borrow.Author.Rules.{rules}
use native.Mathlib.Omega.{arith}
use mathlib.Core.Path.{sym, ◌∙◌}
use lib.ListN.{length-set}
use Rattle.tallies.proofs.Adds.{held_within}
use Rattle.tallies.proofs.Raises.{raise_refused, raise_starts, raise_more, raise_ends}
use Rattle.tallies.proofs.sums.raised.Goals as goal

pub loop-i-init : goal.loop-i-init
loop-i-init c = let q = raise_starts c.args.t c.args.at c.args.more.now c.requires (search rules) (held_within c.args.t _ c.well_formed.0) in (search rules, q.0, q.1)

pub returns-in_err-s : goal.returns-in_err-s
returns-in_err-s c = c.from_residual.ensures ∙ sym (raise_refused c.args.t c.args.at c.args.more.now c.requires (search rules) c.loop-i.i c.loop-i-test.true (omega (arith, c.in_err-s.ensures)))

pub loop-i-preserved : goal.loop-i-preserved
loop-i-preserved c =
    let q = raise_more c.args.t c.args.at c.args.more.now c.requires (search rules) c.loop-i.s c.loop-i.i c.loop-i.invariant.0 c.loop-i-test.true c.in_ok-s.ensures.1 (omega (arith, c.in_ok-s.ensures)) c.loop-i.invariant.1 c.loop-i.invariant.2 in
    (simp length-set c.loop-i.invariant.0, q.0, q.1)

pub returns : goal.returns
returns c = sym (raise_ends c.args.t c.args.at c.args.more.now c.requires (search rules) c.loop-i.s c.loop-i.i c.loop-i.invariant.0 (omega arith) (omega arith) c.loop-i.invariant.1 c.loop-i.invariant.2)
