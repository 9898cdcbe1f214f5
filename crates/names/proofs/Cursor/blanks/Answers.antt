use Prim.Native.Nat.{ℕ}
use mathlib.Core.Bool.{Bool}
use mathlib.Core.Path.{ap, ◌∙◌, fun_ext}
use Rattle.names.specs.Chain.{skip}
use Rattle.names.specs.Texts.{blanks}
use Rattle.names.proofs.Laws.{within_one}
use Rattle.names.proofs.Cursor.blanks.Goals as goal

pub returns : goal.returns
unfolding blanks
returns c = ap (λ (p : ℕ → Bool). skip p c.args.s.now c.args.self.at) (fun_ext (within_one 32)) ∙ c.skip.ensures
