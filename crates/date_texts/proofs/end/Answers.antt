use mathlib.Core.Path.{sym, ◌∙◌}
use Rattle.sheet_texts.specs.Dates as texts
use Rattle.pen.proofs.Pours.{none, these, ◌next◌, same}
use Rattle.date_texts.proofs.Laws.{parts}
use Rattle.date_texts.proofs.end.Goals as goal

pub end_date-requires : goal.end_date-requires
end_date-requires c = (parts c.args.r c.requires).end

pub offset-requires : goal.offset-requires
offset-requires c = (parts c.args.r c.requires).end_offset

pub returns-then-not-same_date : goal.returns-then-not-same_date
unfolding texts.end
returns-then-not-same_date c = same (these c.put.ensures next c.end_date.ensures next c.offset.ensures) (λ v. rw (sym c.same_date.ensures ∙ c.if-not-same_date.true))

pub returns-else-not-same_date : goal.returns-else-not-same_date
unfolding texts.end
returns-else-not-same_date c = same (none c.args.p.now) (λ v. rw (sym c.same_date.ensures ∙ c.if-not-same_date.false))
