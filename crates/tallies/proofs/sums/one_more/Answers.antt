use native.Mathlib.Omega.{arith}
use borrow.Author.Rules.{rules}
use mathlib.Core.Path.{sym, ap, ◌∙◌}
use lib.ListN.{set}
use Rattle.std.specs.Prelude.{Some}
use Rattle.tallies.proofs.Adds.{held_within}
use Rattle.tallies.proofs.Raises.{one_refused, one_raised}
use Rattle.tallies.proofs.sums.one_more.Goals as goal

pub returns-in_err-s : goal.returns-in_err-s
returns-in_err-s c = c.from_residual.ensures ∙ sym (one_refused c.args.t c.args.n (search rules) c.requires (omega (arith, c.in_err-s.ensures)))

pub returns : goal.returns
returns c = ap (λ v. Some (set c.args.t c.args.n v)) c.in_ok-s.ensures.1 ∙ sym (one_raised c.args.t c.args.n (search rules) c.requires (held_within c.args.t _ c.well_formed.0) (omega (arith, c.in_ok-s.ensures.0)))
