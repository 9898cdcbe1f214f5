-- What specs/Proved.antt states.
use Rattle.touched.specs.Proved.{RecordedDays}
use Rattle.touched.proofs.Laws.{stays, opens}
use Rattle.touched.proofs.ItemByItem.{item_by_item, one_more}
use Rattle.touched.proofs.Senses.{stepped_says, round_says, between_says}

pub recorded_days : RecordedDays
recorded_days = record { stays = stays; opens = opens; item_by_item = item_by_item; one_more = one_more; stepped = stepped_says; round = round_says; between = between_says }
