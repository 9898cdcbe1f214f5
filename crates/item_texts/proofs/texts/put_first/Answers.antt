use Rattle.sheet_texts.specs.Names as names
use Rattle.pen.proofs.Pours.{these, ◌next◌}
use Rattle.item_texts.proofs.Laws.{full_plain}
use Rattle.item_texts.proofs.texts.put_first.Goals as goal
use Rattle.item_texts.proofs.texts.put_first.Goals.{in-Weeks, in_default}

pub returns : goal.returns
unfolding names.letters_in names.name names.written
returns c = elim c.match-a.branch [
  | in-Weeks w ↦ rw w.in-Weeks.is (these w.put_all.ensures next (rw (w.p-is, w.in-Weeks.is) at c.item.ensures))
  | in_default w ↦ rw (full_plain c.args.a w.in_default.not-Weeks) (rw w.p-is at c.item.ensures)
]
