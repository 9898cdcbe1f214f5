use Rattle.date_texts.proofs.Laws.{end_good}
use Rattle.date_texts.proofs.end_date.Goals as goal

pub date-requires : goal.date-requires
date-requires c = end_good c.args.r c.requires c.if-r-eq10000.false
