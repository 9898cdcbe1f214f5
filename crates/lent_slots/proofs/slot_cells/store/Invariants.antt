-- The cells of the words that are left, stored after those that are, are the cells of all.
use Rattle.std.specs.Prelude.{◌+◌, ◌*◌, ◌≡◌, length, drop}
use Rattle.std.proofs.lemmas.List.Edits.{sets}
use Rattle.lent_slots.proofs.slot_cells.store.Given as goal

abbrev pub invariant-loop-word : goal.invariant-loop-word
invariant-loop-word g l = (l.p ≡ l.initial.p + l.word-index * g.C.Cell.PER_WORD) × (length l.table ≡ length l.initial.table) × (sets l.initial.table l.initial.p (g.C.Cell.cells l.word-items) ≡ sets l.table l.p (g.C.Cell.cells (drop l.word-index l.word-items)))
