use mathlib.Core.Path.{◌≡◌}
use Rattle.names.specs.Chain.{skip}
use Rattle.utf8.specs.Letters.{is_inner}
use Rattle.rules.proofs.comments.inner.Given as goal

-- what is left to skip from here ends where all of it does
abbrev pub invariant-loop-at : goal.invariant-loop-at
invariant-loop-at l = skip is_inner l.s l.c.at ≡ skip is_inner l.s l.at
