use borrow.Author.Rules.{rules}
use mir.Syntax.{w16}
use mir.Facts.{to_z-of_z}
use Rattle.sheet_texts.specs.Names as names
use Rattle.sheet_texts.specs.Dates as texts
use Rattle.pen.proofs.Pours.{these, ◌next◌}
use Rattle.date_texts.proofs.Laws.{fixed_range, nth_range}
use Rattle.date_texts.proofs.day.Goals as goal

pub month-requires : goal.month-requires
month-requires c = let range = fixed_range c.in-Fixed.m c.in-Fixed.k (rw c.in-Fixed.is at c.requires) in record { le_n = range.0; n_bound = range.1 }

pub month-requires-in-Weekday : goal.month-requires-in-Weekday
month-requires-in-Weekday c = let range = (nth_range c.in-Weekday.m c.in-Weekday.w c.in-Weekday.n (rw c.in-Weekday.is at c.requires)).0 in record { le_n = range.0; n_bound = range.1 }

pub weekday-requires : goal.weekday-requires
weekday-requires c = let range = (nth_range c.in-Weekday.m c.in-Weekday.w c.in-Weekday.n (rw c.in-Weekday.is at c.requires)).1 in record { le_n = range.0; n_bound = range.1 }

pub returns-in-Fixed : goal.returns-in-Fixed
unfolding texts.day_text
returns-in-Fixed c = rw c.in-Fixed.is (c.month.ensures next these c.put.ensures next (rw c.from.ensures at c.number.ensures))

pub returns-in-Weekday : goal.returns-in-Weekday
unfolding texts.day_text
returns-in-Weekday c =
    let mark = rw (to_z-of_z {w = w16} {z = c.in-Weekday.n} (search rules)) at c.one_mark.ensures in
    rw c.in-Weekday.is (c.month-in-Weekday.ensures next these c.put-in-Weekday.ensures next c.weekday.ensures next these c.put-in-Weekday-2.ensures next mark next these c.put-in-Weekday-3.ensures)

pub returns-in-Easter : goal.returns-in-Easter
unfolding names.letters_in names.name names.written texts.day_text
returns-in-Easter c = rw c.in-Easter.is (these c.put_all.ensures)
