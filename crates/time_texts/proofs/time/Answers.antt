use borrow.Author.Rules.{rules}
use mir.Syntax.{w16}
use mir.Facts.{to_z-of_z}
use Rattle.sheet_texts.specs.Names as names
use Rattle.sheet_texts.specs.Times as texts
use Rattle.time_texts.specs.Events as events
use Rattle.time_texts.proofs.time.Goals as goal

pub returns-in-Fixed : goal.returns-in-Fixed
unfolding texts.time
returns-in-Fixed c = rw c.in-Fixed.is c.clock.ensures

pub returns-in-Dawn : goal.returns-in-Dawn
unfolding texts.time texts.around events.around names.name names.letters_in names.written
returns-in-Dawn c = rw c.in-Dawn.is (rw (to_z-of_z {w = w16} {z = c.in-Dawn.x} (search rules)) at c.around.ensures)

pub returns-in-Sunrise : goal.returns-in-Sunrise
unfolding texts.time texts.around events.around names.name names.letters_in names.written
returns-in-Sunrise c = rw c.in-Sunrise.is (rw (to_z-of_z {w = w16} {z = c.in-Sunrise.x} (search rules)) at c.around-in-Sunrise.ensures)

pub returns-in-Sunset : goal.returns-in-Sunset
unfolding texts.time texts.around events.around names.name names.letters_in names.written
returns-in-Sunset c = rw c.in-Sunset.is (rw (to_z-of_z {w = w16} {z = c.in-Sunset.x} (search rules)) at c.around-in-Sunset.ensures)

pub returns-in-Dusk : goal.returns-in-Dusk
unfolding texts.time texts.around events.around names.name names.letters_in names.written
returns-in-Dusk c = rw c.in-Dusk.is (rw (to_z-of_z {w = w16} {z = c.in-Dusk.x} (search rules)) at c.around-in-Dusk.ensures)
