use Rattle.sheet_texts.specs.Dates as texts
use Rattle.pen.proofs.Pours.{◌next◌}
use Rattle.date_texts.proofs.Laws.{parts}
use Rattle.date_texts.proofs.dates.Goals as goal

pub date-requires : goal.date-requires
date-requires c = (parts c.args.r c.requires).start

pub offset-requires : goal.offset-requires
offset-requires c = (parts c.args.r c.requires).offset

pub returns : goal.returns
unfolding texts.dates
returns c = c.date.ensures next c.offset.ensures next c.end.ensures
