use Prim.Native.Nat.{◌/◌}
use mathlib.Core.Path.{◌≡◌}
use native.Mathlib.Omega.{arith}
use Rattle.sheet_texts.specs.Numbers.{last_digits, two, four}
use Rattle.pen.proofs.Pours.{◌next◌, same}
use Rattle.pen.proofs.four.Goals as goal

pub returns : goal.returns
unfolding four last_digits two
returns c = same (c.two.ensures next c.two-2.ensures) (λ v. let e : c.args.n / 10 / 10 ≡ c.args.n / 100 = omega arith in rw e)
