-- Record by record.
use borrow.Author.Rules.{rules}
use native.Mathlib.Omega.{arith}
use mathlib.Core.Path.{sym, ◌∙◌}
use Rattle.lent_slots.proofs.Cells.{out_begin, out_more, out_end}
use Rattle.sheet.proofs.sheets.put_records.Goals as goal

pub loop-slot-init : goal.loop-slot-init
loop-slot-init c = (search rules, search rules, search rules, out_begin _ _ _)

pub words_at-requires : goal.words_at-requires
words_at-requires c = omega arith

pub loop-slot-preserved : goal.loop-slot-preserved
loop-slot-preserved c = (
  search rules,
  c.words-1.given ∙ c.loop-slot.invariant.1,
  c.bytes-1.given ∙ c.loop-slot.invariant.2,
  rw (c.keep.ensures, c.words_at.ensures) (c.loop-slot.invariant.3 ∙ out_more _ c.loop-slot.slot _ _ (search rules)),
)

pub shape_of-words : goal.shape_of-words
shape_of-words c = c.loop-slot.invariant.1

pub shape_of-bytes : goal.shape_of-bytes
shape_of-bytes c = c.loop-slot.invariant.2

pub returns : goal.returns
returns c = sym (c.loop-slot.invariant.3 ∙ out_end _ c.loop-slot.slot _ _ (search rules))
