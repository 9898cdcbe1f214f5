use borrow.Author.Rules.{rules}
use borrow.Author.Tests.{tests}
use mathlib.Core.Path.{sym, ◌∙◌}
use Rattle.std.proofs.lemmas.Iterator.{YieldsList-from_slice}
use Rattle.std.proofs.lemmas.Iterator.Search.{all_from_yields_List}
use Rattle.names.specs.Spellings.{is_small}
use Rattle.names.proofs.Odd.{all_small_lem}
use Rattle.names.proofs.spellings.all_small.Goals as goal

pub returns : goal.returns
returns c = all_from_yields_List is_small _ _ _ c.all.ensures.ran (YieldsList-from_slice c.args.letters.now cc) (λ x b q k. search (rules, tests)) ∙ sym (all_small_lem c.args.letters.now)
