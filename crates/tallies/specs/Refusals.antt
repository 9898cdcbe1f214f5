-- Why a tally is left as it was: the numbers that are answered.
use Rattle.std.specs.Prelude.{ℕ}
use Rattle.tallies.specs.declared.refusals.TallyRefusal.{TallyRefusal}
use Rattle.tallies.specs.declared.refusals.TallyRefusal.TheVariants.{OverTheLimit, NoFit}

-- the number of a refusal
abbrev pub number : TallyRefusal → ℕ
number OverTheLimit = 15
number NoFit = 16
