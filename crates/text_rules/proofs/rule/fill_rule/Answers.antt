-- The opening, and what is read on from it; or the opening's refusal.
use native.Mathlib.Omega.{arith}
use mathlib.Core.Path.{◌≡◌}
use Rattle.std.specs.Prelude.{Err}
use Rattle.text_rules.proofs.Fills.{opening_refused}
use Rattle.text_rules.proofs.rule.fill_rule.Goals as goal

pub fill_pieces-requires : goal.fill_pieces-requires
fill_pieces-requires c = (c.requires.s_len_bound, c.requires.slot_bound, c.in_ok-start.ensures)

pub returns-in_err-start : goal.returns-in_err-start
returns-in_err-start c = let refused : c.from_residual.result ≡ Err c.in_err-start.field-0.0 = grind arith in rw refused (opening_refused _ _ _ _ _ _ c.in_err-start.ensures)
