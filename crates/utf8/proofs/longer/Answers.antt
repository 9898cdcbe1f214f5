use Prim.Native.Nat.{ℕ}
use native.Mathlib.Omega.{arith}
use mathlib.Core.List.{List}
use mathlib.Core.Path.{◌≡◌, ◌∙◌}
use lib.ListN.{get_or-eq_default}
use Rattle.names.specs.Read.{Read}
use Rattle.utf8.specs.Utf8.{two_more, three_more}
use Rattle.utf8.proofs.Rows.{longer_from, longer_to, at_c2, at_e0, at_3, at_ed, at_f0, at_f1, at_f4}
use Rattle.utf8.proofs.longer.Goals as goal

-- what follows the first byte, of the ranges that the table has
module _ (lo hi lo' hi' : ℕ) (s : List ℕ) (j : ℕ) {x y : Read (Unit {0})} where
  two : x ≡ two_more lo hi s j → two_more lo' hi' s j ≡ y → lo' ≡ lo → hi' ≡ hi → x ≡ y
  two p q e f = p ∙ (rw (e, f) at q)

  three : x ≡ three_more lo hi s j → three_more lo' hi' s j ≡ y → lo' ≡ lo → hi' ≡ hi → x ≡ y
  three p q e f = p ∙ (rw (e, f) at q)

pub returns-then-s-at : goal.returns-then-s-at
returns-then-s-at c = longer_from.below c.args.s.now c.args.c.at (omega (arith, get_or-eq_default c.args.s.now 0 c.if-s-at.true))

pub returns-in-224 : goal.returns-in-224
returns-in-224 c = two 0xA0 0xBF _ _ _ _ (at_e0 _ _ (omega arith) c.in-224.is) c.two_more.ensures (omega arith) (omega arith)

pub returns-in-237 : goal.returns-in-237
returns-in-237 c = two 0x80 0x9F _ _ _ _ (at_ed _ _ (omega arith) c.in-237.is) c.two_more-in-237.ensures (omega arith) (omega arith)

pub returns-in-240 : goal.returns-in-240
returns-in-240 c = three 0x90 0xBF _ _ _ _ (at_f0 _ _ (omega arith) c.in-240.is) c.three_more.ensures (omega arith) (omega arith)

pub returns-in-244 : goal.returns-in-244
returns-in-244 c = three 0x80 0x8F _ _ _ _ (at_f4 _ _ (omega arith) c.in-244.is) c.three_more-in-244.ensures (omega arith) (omega arith)

pub returns-in-194-to-223 : goal.returns-in-194-to-223
returns-in-194-to-223 c = at_c2 _ _ (omega arith) (omega arith) (omega arith) ∙ c.tail.ensures

pub returns-in-225-to-236 : goal.returns-in-225-to-236
returns-in-225-to-236 c = two 0x80 0xBF _ _ _ _ (at_3 _ _ (omega arith) (omega arith) (omega arith) (omega arith)) c.two_more-in-225-to-236.ensures (omega arith) (omega arith)

pub returns-in-241-to-243 : goal.returns-in-241-to-243
returns-in-241-to-243 c = three 0x80 0xBF _ _ _ _ (at_f1 _ _ (omega arith) (omega arith) (omega arith)) c.three_more-in-241-to-243.ensures (omega arith) (omega arith)

pub returns-in_default : goal.returns-in_default
returns-in_default c = longer_from.below c.args.s.now c.args.c.at (omega arith)

pub returns-in_default-2 : goal.returns-in_default-2
returns-in_default-2 c = longer_to.above c.args.s.now c.args.c.at (omega arith)
