use mir.Syntax.{w32}
use mir.Val.{to_z}
use mir.Facts.{to_z-of_z}
use borrow.Author.Rules.{rules}
use mathlib.Core.Path.{◌≡◌, refl, sym, ap, ◌∙◌}
use Prim.Native.Nat.{◌*◌}
use native.Mathlib.Omega.{arith}
use lib.ListN.{length-set}
use lib.Seq.{take_all}
use Rattle.lent_slots.proofs.SlotLaws.{word_more}
use Rattle.lent_slots.specs.Slots as slots
use Rattle.lent_slots.proofs.read_bytes.bytes_at.Goals as goal

pub loop-i-init : goal.loop-i-init
unfolding slots.words_from
loop-i-init c = (search rules, search rules, refl)

pub loop-i-preserved : goal.loop-i-preserved
loop-i-preserved c = (search rules, simp length-set (search rules), word_more c.loop-i.w c.args.table.now (c.args.slot * 64) c.loop-i.i (search rules) (to_z-of_z {w = w32} {z = c.cast_signed.result} (search rules) ∙ c.cast_signed.ensures ∙ ap (λ m. to_z w32 m) c.number_in.ensures) c.loop-i.invariant.2)

pub returns : goal.returns
returns c = let e : c.loop-i.i ≡ 16 = omega arith in sym (take_all 16 c.loop-i.w (omega arith)) ∙ (rw e at c.loop-i.invariant.2)
