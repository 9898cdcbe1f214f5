use borrow.Author.Rules.{rules}
use borrow.Author.Tests.{tests}
use native.Mathlib.Omega.{arith}
use mathlib.Core.Bool.{true, false}
use mathlib.Core.Path.{◌≡◌, sym, ap, ◌∙◌}
use Rattle.names.specs.Tests.{within}
use Rattle.utf8.proofs.Firsts.{quote_none, short_there, short_got, long_is}
use Rattle.utf8.proofs.letter.Goals as goal

pub returns-then-not-contains : goal.returns-then-not-contains
unfolding within
returns-then-not-contains c =
    let outside : within 32 0x7F c.byte-b.result ≡ false = search (rules, tests) in
    long_is c.args.s.now c.args.c.at (sym (ap (within 32 0x7F) c.byte-b.ensures) ∙ outside) ∙ c.longer.ensures

pub returns-then-b-eq34 : goal.returns-then-b-eq34
returns-then-b-eq34 c = quote_none c.args.s.now c.args.c.at (sym c.byte-b.ensures ∙ c.if-b-eq34.true)

pub overflow_add-result : goal.overflow_add-result
unfolding within
overflow_add-result c =
    let inside : within 32 0x7F c.byte-b.result ≡ true = search (rules, tests) in
    let here = short_there c.args.s.now c.args.c.at (sym (ap (within 32 0x7F) c.byte-b.ensures) ∙ inside) in
    omega arith

pub returns-else-b-eq34 : goal.returns-else-b-eq34
unfolding within
returns-else-b-eq34 c =
    let inside : within 32 0x7F c.byte-b.result ≡ true = search (rules, tests) in
    short_got c.args.s.now c.args.c.at (sym (ap (within 32 0x7F) c.byte-b.ensures) ∙ inside) (λ e. c.if-b-eq34.false (c.byte-b.ensures ∙ e))
