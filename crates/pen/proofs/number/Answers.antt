use Prim.Native.Nat.{◌/◌}
use mathlib.Core.Path.{◌≡◌}
use native.Mathlib.Omega.{arith}
use borrow.Author.Tests.{lt-ltb, le-ltb}
use Rattle.sheet_texts.specs.Numbers.{last_digits, width, number, two, four}
use Rattle.pen.proofs.Pours.{◌next◌, same}
use Rattle.pen.proofs.number.Goals as goal

pub returns-in-0-to-9 : goal.returns-in-0-to-9
unfolding number width
returns-in-0-to-9 c = same c.digit.ensures (λ v. rw (lt-ltb c.args.n 10 (omega arith)))

pub returns-in-10-to-99 : goal.returns-in-10-to-99
unfolding number two width
returns-in-10-to-99 c = same c.two.ensures (λ v. rw (le-ltb c.args.n 10 (omega arith), lt-ltb c.args.n 100 (omega arith)))

pub returns-in-100-to-999 : goal.returns-in-100-to-999
unfolding last_digits number two width
returns-in-100-to-999 c = same (c.digit-in-100-to-999.ensures next c.two-in-100-to-999.ensures) (λ v.
    let e : c.args.n / 10 / 10 ≡ c.args.n / 100 = omega arith in
    rw (le-ltb c.args.n 10 (omega arith), le-ltb c.args.n 100 (omega arith), lt-ltb c.args.n 1000 (omega arith), e))

pub returns-in-1000-to-9999 : goal.returns-in-1000-to-9999
unfolding four number width
returns-in-1000-to-9999 c = same c.four.ensures (λ v. rw (le-ltb c.args.n 10 (omega arith), le-ltb c.args.n 100 (omega arith), le-ltb c.args.n 1000 (omega arith), lt-ltb c.args.n 10000 (omega arith)))

pub returns-in_default : goal.returns-in_default
unfolding four last_digits number two width
returns-in_default c = same (c.digit-in_default.ensures next c.four-in_default.ensures) (λ v.
    let e : c.args.n / 10 / 10 / 10 / 10 ≡ c.args.n / 10000 = omega arith in
    rw (le-ltb c.args.n 10 (omega arith), le-ltb c.args.n 100 (omega arith), le-ltb c.args.n 1000 (omega arith), le-ltb c.args.n 10000 (omega arith), e))
