use Rattle.std.specs.Prelude.{Option}
use Prim.Native.Nat.{ℕ}
use Rattle.items.proofs.Quotes.{lack_is}
use Rattle.text_rules.proofs.texts.parted.Goals as goal

pub returns-in-Some : goal.returns-in-Some
returns-in-Some c = rw (c.blanks-d.ensures, c.in-Some.ensures)

pub returns-in-None : goal.returns-in-None
returns-in-None c = rw (c.blanks-d.ensures, c.in-None.ensures, lack_is (Option ℕ) _ _ c.missing.result c.missing.ensures)
