use borrow.Author.Rules.{rules}
use mathlib.Core.Path.{◌≡◌}
use native.Mathlib.Omega.{arith}
use mir.Syntax.{w16}
use mir.Facts.{to_z-of_z}
use Rattle.sheet_texts.specs.Names as names
use Rattle.sheet_texts.specs.Days as texts
use Rattle.pen.proofs.Pours.{these, ◌next◌}
use Rattle.day_texts.proofs.holidays.Goals as goal
use Rattle.day_texts.proofs.holidays.Goals.{then-r-eq1, else-r-eq1}

pub returns : goal.returns
unfolding names.letters_in names.name names.written texts.holidays
returns c =
    let days = rw (to_z-of_z {w = w16} {z = c.args.r.days} (search rules)) at c.day_offset.ensures in
    elim c.if-r-eq1.branch [
      | then-r-eq1 w ↦ rw w.if-r-eq1.true (these (rw w.put_all-is at c.put_all.ensures) next days)
      | else-r-eq1 w ↦ let two : c.args.r.kind ≡ 2 = omega (arith, w.if-r-eq1.false) in rw two (these (rw w.put_all-is at c.put_all.ensures) next days)
    ]
