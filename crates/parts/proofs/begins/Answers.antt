use native.Mathlib.Omega.{arith}
use Rattle.parts.proofs.Laws.{begins_first, begins_past, begins_after, begins_not_lem}
use Rattle.parts.proofs.begins.Goals as goal

pub returns-in-Some-empty : goal.returns-in-Some-empty
returns-in-Some-empty c = begins_first c.args.s.now c.args.place (omega (arith, c.in-Some-empty.ensures.lookup.0))

pub returns-then-last-eq59 : goal.returns-then-last-eq59
returns-then-last-eq59 c = let h = c.in-Some-len1-up.ensures.lookup.0 in
    begins_after c.args.s.now _ c.args.place h.2 h.1 c.in-Some-len1-up.len_at_least c.inside_of.result c.if-last-eq59.true c.inside_of.ensures

pub returns-else-last-eq59 : goal.returns-else-last-eq59
returns-else-last-eq59 c = let h = c.in-Some-len1-up.ensures.lookup.0 in
    begins_not_lem c.args.s.now _ c.args.place h.2 h.1 c.in-Some-len1-up.len_at_least c.if-last-eq59.false

pub returns-in-None : goal.returns-in-None
returns-in-None c = begins_past c.args.s.now c.args.place (omega (arith, c.in-None.ensures.lookup.0))
