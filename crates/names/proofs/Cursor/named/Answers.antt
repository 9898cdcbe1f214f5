use Rattle.names.proofs.Local.{past_one}
use Rattle.names.proofs.NameCut.{name_local}
use Rattle.names.proofs.Cursor.named.Goals as goal

pub odd-odd-requires : goal.odd-odd-requires
odd-odd-requires c = let in_text = past_one (name_local _) c.in_ok-value.ensures.is in record { at_lt_at = in_text.0; at_in_bounds = in_text.1 }
