use borrow.Author.Rules.{rules}
use borrow.Author.Tests.{tests}
use mathlib.Core.Bool.{true, false}
use mathlib.Core.Path.{◌≡◌, sym, ap, ◌∙◌}
use lib.ListN.{get_or}
use Rattle.names.specs.Tests.{within}
use Rattle.utf8.proofs.Laws.{octet_got, octet_not, octet_past}
use Rattle.utf8.proofs.octet.Goals as goal

pub returns-in_err-b : goal.returns-in_err-b
returns-in_err-b c = rw c.from_residual.ensures (octet_past _ _ _ _ (search rules))

pub returns-then-contains : goal.returns-then-contains
unfolding within
returns-then-contains c =
    let here : c.in_ok-b.b.now ≡ get_or c.args.s.now c.args.c.at 0 = search rules in
    let inside : within c.args.lo c.args.hi c.in_ok-b.b.now ≡ true = search (rules, tests) in
    octet_got _ _ _ _ (search rules) (sym (ap (within c.args.lo c.args.hi) here) ∙ inside)

pub returns-else-contains : goal.returns-else-contains
unfolding within
returns-else-contains c =
    let here : c.in_ok-b.b.now ≡ get_or c.args.s.now c.args.c.at 0 = search rules in
    let outside : within c.args.lo c.args.hi c.in_ok-b.b.now ≡ false = search (rules, tests) in
    octet_not _ _ _ _ (sym (ap (within c.args.lo c.args.hi) here) ∙ outside)
