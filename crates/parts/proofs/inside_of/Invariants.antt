use mathlib.Core.Path.{◌≡◌}
use lib.ListN.{take}
use Rattle.names.specs.Quotes.{inside_of}
use Rattle.parts.proofs.inside_of.Given as goal

-- what the bytes before this one made
abbrev pub invariant-loop-b : goal.invariant-loop-b
invariant-loop-b l = l.inside ≡ inside_of (take l.b-index l.s)
