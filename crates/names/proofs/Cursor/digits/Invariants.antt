use Prim.Native.Nat.{◌-◌, ◌<◌, ◌^◌}
use mathlib.Core.Path.{◌≡◌}
use Rattle.names.specs.Numbers.{up_to, digits}
use Rattle.names.proofs.Cursor.digits.Given as goal

-- n digits are taken, and the rest is as it was
abbrev pub invariant-loop-n : goal.invariant-loop-n
invariant-loop-n l = (l.sum < 10 ^ l.n) × (up_to (l.most - l.n) (l.least - l.n) l.sum l.s l.c.at ≡ digits l.least l.most l.s l.initial.c.at)
