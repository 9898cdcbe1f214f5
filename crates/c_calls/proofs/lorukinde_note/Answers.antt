use mathlib.Core.Path.{ap}
use mir.Facts.{to_z-of_z}
use Rattle.c_calls.specs.Calls.{note_numbers, note_call}
use Rattle.c_calls.proofs.lorukinde_note.Goals as goal

pub returns-in-Sheet : goal.returns-in-Sheet
unfolding note_call
returns-in-Sheet c = ap note_numbers (rw (to_z-of_z c.ranges.start, to_z-of_z c.ranges.length) at c.in-Sheet.ensures)

pub returns-in-Standing : goal.returns-in-Standing
unfolding note_call
returns-in-Standing c = ap note_numbers (rw (to_z-of_z c.ranges.start, to_z-of_z c.ranges.length) at c.in-Standing.ensures)
