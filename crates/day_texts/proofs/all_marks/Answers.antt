use Rattle.sheet_texts.specs.Days as texts
use Rattle.day_texts.proofs.Laws.{marks_next, all_poured}
use Rattle.day_texts.proofs.all_marks.Goals as goal

pub returns : goal.returns
unfolding texts.all_marks
returns c = all_poured (marks_next c.marks-alone.ensures c.marks.ensures)
