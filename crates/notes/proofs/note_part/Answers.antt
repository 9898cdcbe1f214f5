use mir.Facts.{to_z-of_z}
use Rattle.notes.proofs.Noted.{zero_is, zero_not, noted_whole, noted_comment, noted_empty}
use Rattle.notes.proofs.note_part.Goals as goal

pub returns-then-length-eq0 : goal.returns-then-length-eq0
returns-then-length-eq0 c = noted_whole c.args.sheet c.args.standing c.args.start c.args.length (zero_is c.args.length (to_z-of_z c.ranges.length) c.if-length-eq0.true)

pub returns-in-Some : goal.returns-in-Some
returns-in-Some c = noted_comment c.args.sheet c.args.standing c.args.start c.args.length _ (zero_not c.args.length c.if-length-eq0.false) (rw (to_z-of_z c.ranges.start, to_z-of_z c.ranges.length) at c.in-Some.ensures)

pub returns-in-None : goal.returns-in-None
returns-in-None c = noted_empty c.args.sheet c.args.standing c.args.start c.args.length (zero_not c.args.length c.if-length-eq0.false) (rw (to_z-of_z c.ranges.start, to_z-of_z c.ranges.length) at c.in-None.ensures)
