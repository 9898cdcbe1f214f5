use Prim.Native.Nat.{ℕ, ◌-◌, ◌≤◌, ◌<◌, ◌^◌}
use native.Mathlib.Omega.{arith}
use mathlib.Core.Path.{◌≡◌, sym, ◌∙◌}
use Rattle.names.proofs.Digits.{digits_start, digit_more, digit_none, digits_full, grown, below, enough_small}
use Rattle.names.proofs.Cursor.digits.Goals as goal

-- at most five digits
few : {n most a : ℕ} → n < most → most ≤ 5 → a < 10 ^ n → a ≤ 9999
few {n} {most} {a} h k p = below n 4 a (omega arith) p

pub loop-n-init : goal.loop-n-init
loop-n-init c = (omega arith, digits_start _ _ _ _)

pub returns-in_default : goal.returns-in_default
returns-in_default c = let number_small = enough_small (c.args.least - c.loop-n.n) c.loop-n.sum c.loop-n.c.at c.enough.result c.enough.ensures in
    let sum-small = below c.loop-n.n c.args.most c.loop-n.sum (omega (arith, c.loop-n.auto.n-end)) c.loop-n.invariant.0 in
    record {
      is = sym c.loop-n.invariant.1 ∙ digit_none _ _ c.loop-n.n c.loop-n.sum _ c.loop-n.c.at (omega arith) c.in_default.ensures.is ∙ c.enough.ensures;
      small = omega (arith, number_small, sum-small);
    }

pub overflow_mul-sum : goal.overflow_mul-sum
overflow_mul-sum c = omega (arith, few c.loop-n-test.true c.requires c.loop-n.invariant.0)

pub overflow_add-sum : goal.overflow_add-sum
overflow_add-sum c = omega (arith, c.in-Some.ensures.small, few c.loop-n-test.true c.requires c.loop-n.invariant.0)

pub loop-n-preserved : goal.loop-n-preserved
loop-n-preserved c = (
  grown _ _ _ c.loop-n.invariant.0 c.in-Some.ensures.small,
  sym (digit_more _ _ c.loop-n.n c.loop-n.sum _ c.loop-n.c.at (omega arith) c.in-Some.ensures.is) ∙ c.loop-n.invariant.1,
)

pub returns : goal.returns
returns c = let number_small = enough_small (c.args.least - c.args.most) c.loop-n.sum c.loop-n.c.at c.enough-2.result c.enough-2.ensures in
    let sum-small = below c.loop-n.n c.args.most c.loop-n.sum (omega (arith, c.loop-n.auto.n-end)) c.loop-n.invariant.0 in
    let full : c.loop-n.n ≡ c.args.most = omega (arith, c.loop-n.auto.n-end) in
    record {
      is = sym c.loop-n.invariant.1 ∙ digits_full _ _ c.loop-n.n c.loop-n.sum _ c.loop-n.c.at (omega arith) ∙ rw full c.enough-2.ensures;
      small = omega (arith, number_small, sum-small);
    }
