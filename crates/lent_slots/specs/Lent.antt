-- A table that is lent, as its words and its bytes.
use Rattle.lent_slots.specs.Tables.{Tables}
use Rattle.lent_slots.specs.declared.Table.{Table}

abbrev pub lent : Table → Tables
lent t = (t.words.now, t.bytes.now)
