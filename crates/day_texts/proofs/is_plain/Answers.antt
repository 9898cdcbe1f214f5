use borrow.Author.Rules.{rules}
use borrow.Author.Tests.{ne_eqb}
use mathlib.Core.Logic.{inl, inr}
use Rattle.sheet_texts.specs.Days as texts
use Rattle.time_texts.proofs.Signs.{no_size}
use Rattle.day_texts.proofs.is_plain.Goals as goal
use Rattle.day_texts.proofs.is_plain.Goals.{then-r-eq31, else-r-eq31}

pub returns-then-r-eq31-2 : goal.returns-then-r-eq31-2
unfolding texts.plain
returns-then-r-eq31-2 c = rw (c.if-r-eq31-2.true.0, c.if-r-eq31-2.true.1) (no_size {x = c.args.r.days} (search rules))

pub returns-else-r-eq31-2 : goal.returns-else-r-eq31-2
unfolding texts.plain
returns-else-r-eq31-2 c = elim c.if-r-eq31.branch [
  | then-r-eq31 w ↦ elim c.if-r-eq31-2.either [
    | inl h ↦ rw (w.t-3-is, w.if-r-eq31.true, ne_eqb c.args.r.ends 31 h.1)
    | inr h ↦ absurd (h w.if-r-eq31.true)
  ]
  | else-r-eq31 w ↦ rw (w.t-3-is, ne_eqb c.args.r.starts 31 w.if-r-eq31.false)
]
