use Rattle.sheet_texts.specs.Names as names
use Rattle.pen.proofs.Pours.{these}
use Rattle.date_texts.proofs.Laws.{month_name}
use Rattle.date_texts.proofs.month.Goals as goal

pub returns : goal.returns
unfolding names.name
returns c = these (rw (c.from.ensures, month_name c.args.n c.requires.le_n c.requires.n_bound) at c.put_all.ensures)
