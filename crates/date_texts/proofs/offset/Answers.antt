use borrow.Author.Rules.{rules}
use mir.Syntax.{w16}
use mir.Facts.{to_z-of_z}
use Rattle.sheet_texts.specs.Dates as texts
use Rattle.pen.proofs.Pours.{◌next◌}
use Rattle.date_texts.proofs.Laws.{offset_range}
use Rattle.date_texts.proofs.offset.Goals as goal

pub near_weekday-requires : goal.near_weekday-requires
near_weekday-requires c = rw (to_z-of_z {w = w16} {z = c.args.o.wday} (search rules)) (offset_range c.args.o c.requires)

pub returns : goal.returns
unfolding texts.offset
returns c =
    (rw (to_z-of_z {w = w16} {z = c.args.o.wday} (search rules)) at c.near_weekday.ensures)
    next (rw (to_z-of_z {w = w16} {z = c.args.o.days} (search rules)) at c.day_offset.ensures)
