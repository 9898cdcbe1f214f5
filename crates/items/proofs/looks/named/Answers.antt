-- A name takes bytes of the text.
use Rattle.names.proofs.Local.{past_one}
use Rattle.names.proofs.NameCut.{word_local}
use Rattle.items.proofs.looks.named.Goals as goal

pub begun-requires : goal.begun-requires
begun-requires c = let h = past_one word_local c.requires in record { at_lt_at = h.0; at_in_bounds = h.1 }
