use Prim.Native.Nat.{◌*◌, ◌≤◌}
use native.Mathlib.Nat.{mul-le-mul}
use native.Mathlib.Omega.{arith}
use mathlib.Core.Path.{sym, ◌∙◌}
use Rattle.lent_slots.specs.SlotCells.{Slot}
use Rattle.lent_slots.proofs.Keeps.{kept_fits, kept_none}
use Rattle.lent_slots.proofs.Words.{has_slot, no_slot}
use Rattle.lent_slots.proofs.slot_cells.keep_in.Goals as goal

pub nonzero_div-table : goal.nonzero_div-table
nonzero_div-table g c = rw c.PER_WORD-width.ensures (let told : 1 * 1 ≤ g.row.N * g.C.Cell.PER_WORD = mul-le-mul c.requires.some g.met.C.Cell.laws.some in omega (arith, told))

pub returns-then-slot-table : goal.returns-then-slot-table
returns-then-slot-table g c =
    let layout = Slot g.C.Cell.PER_WORD g.C.Cell.cells g.row.N in
    (rw c.PER_WORD-width.ensures at c.store.ensures) ∙ sym (kept_fits layout c.args.table.now c.args.slot c.args.words (has_slot _ _ _ (rw c.PER_WORD-width.ensures at c.if-slot-table.true)))

pub returns-else-slot-table : goal.returns-else-slot-table
returns-else-slot-table g c =
    let layout = Slot g.C.Cell.PER_WORD g.C.Cell.cells g.row.N in
    let told : 1 * 1 ≤ g.row.N * g.C.Cell.PER_WORD = mul-le-mul c.requires.some g.met.C.Cell.laws.some in
    sym (kept_none layout c.args.table.now c.args.slot c.args.words (no_slot _ _ _ (omega (arith, told)) (rw c.PER_WORD-width.ensures at c.if-slot-table.false)))
