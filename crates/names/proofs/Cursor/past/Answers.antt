use borrow.Author.Rules.{rules}
use borrow.Author.Tests.{tests}
use native.Mathlib.Nat.{add-zero}
use mathlib.Core.Bool.{Bool, true, false}
use mathlib.Core.Path.{◌≡◌, ap, ◌∙◌}
use Rattle.std.specs.Prelude.{Option}
use Rattle.std.specs.Bool.{then_some}
use Rattle.std.proofs.lemmas.Iterator.{YieldsList-from_slice}
use Rattle.std.proofs.lemmas.Iterator.Consumers.{YieldsList-from_enumerate}
use Rattle.std.proofs.lemmas.Iterator.Search.{all_from_yields_List}
use Rattle.names.specs.declared.Cursor.{Cursor}
use Rattle.names.specs.Read.{got, when}
use Rattle.names.specs.Table.{stand}
use Rattle.names.specs.Seen.{number_of, seen_step}
use Rattle.names.proofs.Lists.{letter_at, all_stand}
use Rattle.names.proofs.Cursor.past.Goals as goal

-- a place, where a test passes
step_when : (t : Bool) (c : Cursor) (r : Option Cursor) → r ≡ then_some t c → when t (got (tt {0}) c.at) ≡ seen_step r
step_when true c r e = rw e
step_when false c r e = rw e

pub returns : goal.returns
returns c =
    let kind = number_of c.args.kind in let s = c.args.s.now in let i = c.args.self.at in
    let told : c.all-stands.result ≡ stand kind c.args.name.now s i =
    all_from_yields_List (letter_at kind s i) _ _ c.all-stands.result c.all-stands.ensures.ran (YieldsList-from_enumerate (YieldsList-from_slice c.args.name.now cc) cc) (λ x b q k. search (rules, tests))
    ∙ all_stand kind s i 0 c.args.name.now ∙ ap (stand kind c.args.name.now s) (add-zero i) in
    rw (← told) (step_when c.all-stands.result _ c.then_some.result c.then_some.ensures)
