use Rattle.sheet_texts.specs.Names as names
use Rattle.pen.proofs.Pours.{these}
use Rattle.day_texts.proofs.Laws.{weekday_name}
use Rattle.day_texts.proofs.weekday.Goals as goal

pub returns : goal.returns
unfolding names.name
returns c = these (rw (c.from.ensures, weekday_name c.args.n c.requires.le_n c.requires.n_bound) at c.put_all.ensures)
