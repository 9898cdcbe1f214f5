-- What undecided means: however the undecided items come to be decided, a yes or a no of the rule stays; and where the rule is undecided, it may come to either.
use Rattle.std.specs.Prelude.{List, ◌≡◌}
use Rattle.records.specs.declared.Item.{Item}
use Rattle.almanac.specs.declared.OnDay.{OnDay}
use Rattle.touched.specs.Selectors.{touch}
use Rattle.touched.specs.Kinds.{rule_by, rule_touch}
use Rattle.touched.specs.declared.Touch.{Touch}
use Rattle.touched.specs.declared.Touch.TheVariants.{No, Undecided, Yes}

-- t comes to be u: a yes and a no stay
abbrev pub ComesTo : Touch → Touch → Type 0
ComesTo t u = (t ≡ Undecided → ⊥) → u ≡ t

-- every item decided, and those that were keep what they were
pub record Decision (f g : Item → Touch) : Type 0 where
  pub keeps : (a : Item) → ComesTo (f a) (g a)
  pub decides : (a : Item) → g a ≡ Undecided → ⊥

-- a yes or a no of the rule stays, whichever items are decided, and how
abbrev pub Stays : Type 0
Stays = (d : OnDay) (l : List Item) (g : Item → Touch) → ((a : Item) → ComesTo (touch d a) (g a)) → ComesTo (rule_touch d l) (rule_by g l)

-- an undecided rule comes to yes by one decision, and to no by another
pub record Open (d : OnDay) (l : List Item) : Type 0 where
  pub yes_by : (g : Item → Touch) × Decision (touch d) g × (rule_by g l ≡ Yes)
  pub no_by : (g : Item → Touch) × Decision (touch d) g × (rule_by g l ≡ No)

abbrev pub Opens : Type 0
Opens = (d : OnDay) (l : List Item) → rule_touch d l ≡ Undecided → Open d l
