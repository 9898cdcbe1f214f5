use mathlib.Core.Path.{ap, ◌∙◌}
use mathlib.Core.Bool.{true}
use Rattle.sheet.specs.PartReadings.{part_answer_of}
use Rattle.sheet.proofs.part_readings.part_refusal.Goals as goal

pub returns : goal.returns
returns c = c.part_answer_of.ensures ∙ ap (λ a. part_answer_of a 0 true) c.refusal.ensures
