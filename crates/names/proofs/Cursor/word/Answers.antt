-- The name at a place is the one with which the rest of the text begins.
use Prim.Native.Nat.{◌+◌}
use native.Mathlib.Omega.{arith}
use mathlib.Core.Path.{◌≡◌, ◌∙◌}
use Rattle.names.specs.Read.{got}
use Rattle.names.specs.Names.{word}
use Rattle.names.specs.Seen.{numbers}
use Rattle.names.proofs.Laws.{inside}
use Rattle.names.proofs.Local.{past_one}
use Rattle.names.proofs.NameCut.{word_local, word_rest}
use Rattle.names.proofs.Search.{no_word}
use Rattle.names.proofs.Cursor.word.Goals as goal

pub returns-then-byte-lt65 : goal.returns-then-byte-lt65
returns-then-byte-lt65 c = no_word _ _ (omega (arith, c.if-byte-lt65.true, c.byte.ensures))

pub returns-in_err-word : goal.returns-in_err-word
returns-in_err-word c = rw c.from_residual.ensures (word_rest c.args.s.now c.args.self.at (omega (arith, inside c.args.s.now c.args.self.at (λ e. omega (arith, c.if-byte-lt65.false, c.byte.ensures ∙ e)))) c.in_err-word.ensures)

pub overflow_add-result : goal.overflow_add-result
overflow_add-result c = omega (arith, past_one word_local (let told : word c.args.s.now c.args.self.at ≡ got (numbers c.in_ok-word.word) (c.args.self.at + c.in_ok-word.c.at) = word_rest c.args.s.now c.args.self.at (omega (arith, inside c.args.s.now c.args.self.at (λ e. omega (arith, c.if-byte-lt65.false, c.byte.ensures ∙ e)))) c.in_ok-word.ensures in told))

pub returns : goal.returns
returns c = (let told : word c.args.s.now c.args.self.at ≡ got (numbers c.in_ok-word.word) (c.args.self.at + c.in_ok-word.c.at) = word_rest c.args.s.now c.args.self.at (omega (arith, inside c.args.s.now c.args.self.at (λ e. omega (arith, c.if-byte-lt65.false, c.byte.ensures ∙ e)))) c.in_ok-word.ensures in told)
