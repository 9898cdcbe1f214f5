-- What is proved of recorded days besides the code.
use Rattle.touched.specs.Deciding.{Stays, Opens}
use Rattle.touched.specs.Founds.{ItemByItem, OneMore}
use Rattle.touched.specs.Senses.{Stepped, Round, Between}

pub record RecordedDays : Type 0 where
  pub stays : Stays
  pub opens : Opens
  pub item_by_item : ItemByItem
  pub one_more : OneMore
  pub stepped : Stepped
  pub round : Round
  pub between : Between
