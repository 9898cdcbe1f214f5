use Rattle.pen.proofs.Pours.{these, ◌next◌}
use Rattle.item_texts.proofs.texts.put_after.Goals as goal

pub returns-in-Some-Comma : goal.returns-in-Some-Comma
returns-in-Some-Comma c =
    let comma = rw c.in-Some-Comma.is at c.in-Some-Comma.field-0-is in
    rw (c.in-Some-Comma.is, comma) (these c.put.ensures next c.item.ensures)

pub returns-in-Some-Colon : goal.returns-in-Some-Colon
returns-in-Some-Colon c =
    let colon = rw c.in-Some-Colon.is at c.in-Some-Colon.field-0-is in
    rw (c.in-Some-Colon.is, colon) (these c.put_all.ensures next c.put_first.ensures)

pub returns-in-Some-Blank : goal.returns-in-Some-Blank
returns-in-Some-Blank c =
    let blank = rw c.in-Some-Blank.is at c.in-Some-Blank.field-0-is in
    rw (c.in-Some-Blank.is, blank) (these c.put-in-Some-Blank.ensures next c.put_first-in-Some-Blank.ensures)
