use borrow.Author.Rules.{rules}
use native.Mathlib.Omega.{arith}
use mathlib.Core.Path.{refl, sym, ◌∙◌}
use Rattle.names.specs.Tests.{within}
use Rattle.names.specs.Numbers.{is_digit, digit}
use Rattle.names.proofs.Laws.{inside, one_is, within_range}
use Rattle.names.proofs.Cursor.digit.Goals as goal

pub overflow_sub-result : goal.overflow_sub-result
unfolding digit is_digit within
overflow_sub-result c = omega (arith, within_range 48 57 c.byte-b.result (sym c.is_digit.ensures ∙ c.if-is_digit.true))

pub overflow_add-result : goal.overflow_add-result
unfolding digit is_digit within
overflow_add-result c = omega (arith, inside c.args.s.now c.args.self.at (omega (arith, within_range 48 57 c.byte-b.result (sym c.is_digit.ensures ∙ c.if-is_digit.true))))

pub returns-then-is_digit : goal.returns-then-is_digit
unfolding digit is_digit within
returns-then-is_digit c = record {
  is = rw (one_is is_digit refl c.args.s.now c.args.self.at c.byte-b.ensures (sym c.is_digit.ensures ∙ c.if-is_digit.true));
  small = omega (
    arith,
    within_range 48 57
        c.byte-b.result (sym c.is_digit.ensures ∙ c.if-is_digit.true),
  );
}

pub returns-else-is_digit : goal.returns-else-is_digit
unfolding digit is_digit within
returns-else-is_digit c = record {
  is = rw (one_is is_digit refl c.args.s.now c.args.self.at c.byte-b.ensures (sym c.is_digit.ensures
      ∙ c.if-is_digit.false));
  small = search rules;
}
