use native.Mathlib.Omega.{arith}
use mathlib.Core.Path.{refl}
use Rattle.names.specs.Tests.{within}
use Rattle.names.specs.Names.{spelled_so}
use Rattle.names.proofs.Rows.{is_letter_lem, plain, all_good, longer}
use Rattle.names.proofs.Search.{none_first}
use Rattle.names.proofs.Cursor.four_or_more.Goals as goal

pub returns-then-byte-lt65 : goal.returns-then-byte-lt65
unfolding all_good is_letter_lem longer plain spelled_so within
returns-then-byte-lt65 c = none_first _ _ 3 (omega (arith, c.if-byte-lt65.true, c.byte.ensures)) _ refl refl
