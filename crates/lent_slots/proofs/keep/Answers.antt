use Rattle.lent_slots.proofs.keep.Goals as goal

pub returns : goal.returns
returns c = rw (c.keep_in.ensures, c.keep_in-2.ensures)
