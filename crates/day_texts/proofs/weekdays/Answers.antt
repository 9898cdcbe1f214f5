use borrow.Author.Rules.{rules}
use mathlib.Core.Path.{sym, ◌∙◌}
use borrow.Author.Tests.{eq-eqb, ne_eqb}
use mir.Syntax.{w16}
use mir.Facts.{to_z-of_z}
use Rattle.sheet_texts.specs.Days as texts
use Rattle.pen.proofs.Pours.{these, ◌next◌, same}
use Rattle.day_texts.proofs.Laws.{weekdays_range}
use Rattle.day_texts.proofs.weekdays.Goals as goal

pub weekday-requires : goal.weekday-requires
weekday-requires c = let range = (weekdays_range c.args.r c.requires).0 in record { le_n = range.0; n_bound = range.1 }

pub weekday-requires-then-r : goal.weekday-requires-then-r
weekday-requires-then-r c = let range = (weekdays_range c.args.r c.requires).1 in record { le_n = range.0; n_bound = range.1 }

pub returns-then-r : goal.returns-then-r
unfolding texts.weekdays
returns-then-r c = same (c.weekday.ensures next these c.put.ensures next c.weekday-then-r.ensures) (λ v. rw (ne_eqb c.args.r.first c.args.r.last c.if-r.true))

pub returns-then-not-is_plain : goal.returns-then-not-is_plain
unfolding texts.weekdays
returns-then-not-is_plain c =
    let days = rw (to_z-of_z {w = w16} {z = c.args.r.days} (search rules)) at c.day_offset.ensures in
    same (c.weekday.ensures next these c.put-then-not-is_plain.ensures next c.all_marks.ensures next these c.put-then-not-is_plain-2.ensures next days)
    (λ v. rw (eq-eqb c.args.r.first c.args.r.last c.if-r.false, sym c.is_plain.ensures ∙ c.if-not-is_plain.true))

pub returns-else-not-is_plain : goal.returns-else-not-is_plain
unfolding texts.weekdays
returns-else-not-is_plain c = same c.weekday.ensures (λ v. rw (eq-eqb c.args.r.first c.args.r.last c.if-r.false, sym c.is_plain.ensures ∙ c.if-not-is_plain.false))
