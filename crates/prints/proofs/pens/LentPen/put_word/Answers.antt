use Rattle.std.proofs.Common.{rules, arith, sym, ◌≡◌, nat_abs}
use mir.Facts.{to_z-of_z}
use Rattle.prints.specs.Decimals.{signed}
use Rattle.prints.specs.Pens.{Writes}
use Rattle.prints.proofs.Decimals.{signed_most}
use Rattle.prints.proofs.Laws.{signed_below, signed_plain}
use Rattle.prints.proofs.Writing.{then, same, most}
use Rattle.prints.proofs.pens.LentPen.put_word.Goals as goal
use Rattle.prints.proofs.pens.LentPen.put_word.Goals.{then-w-lt0, else-w-lt0}

-- the sign of a number below 0, and its size
word : (c : goal.After-put_number) → Writes (signed c.args.w) c.args.self.now c.put_number.new.self
word c =
    let n : c.from.result ≡ nat_abs c.args.w = search rules in
    let size = rw n at c.put_number.ensures.whole in
    let own = to_z-of_z c.ranges.w in
    elim c.if-w-lt0.branch [
      | then-w-lt0 w ↦ same (then w.put.ensures (rw w.self-is at size)) (sym (signed_below c.args.w (rw own at w.if-w-lt0.true)))
      | else-w-lt0 w ↦ same (rw w.self-is at size) (sym (signed_plain c.args.w (rw own at w.if-w-lt0.false)))
    ]

pub returns-clause-whole : goal.returns-clause-whole
returns-clause-whole c = word c

pub returns-clause-most : goal.returns-clause-most
returns-clause-most c = omega (arith, most (word c), signed_most c.args.w c.ranges.w)
