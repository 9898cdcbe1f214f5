use native.Mathlib.Omega.{arith}
use lib.IntN.{pos}
use lib.ListN.{get_or}
use mir.Syntax.{w32}
use mir.Facts.{to_z-of_z}
use borrow.Author.Rules.{rules}
use Rattle.lent_slots.proofs.Words.{word_stored}
use Rattle.lent_slots.proofs.slot_cells.store.Goals as goal

pub loop-word-preserved : goal.loop-word-preserved
loop-word-preserved g c = rw c.PER_WORD-p.ensures (word_stored g.met.C.Cell.laws _ c.loop-word.table _ _ c.loop-word.p c.loop-word.word-index c.loop-word.invariant.0 c.loop-word.invariant.1 c.loop-word.invariant.2 (omega arith) (rw (to_z-of_z {w = w32} {z = get_or c.args.words c.loop-word.word-index (pos 0)} (search rules)) at c.put.ensures))
