use Prim.Native.Nat.{◌+◌, ◌-◌, ◌/◌, ◌%◌}
use native.Mathlib.Omega.{arith}
use mathlib.Core.List.{append_assoc}
use mathlib.Core.Path.{◌≡◌, sym, ◌∙◌}
use lib.ListN.{take, drop}
use lib.Seq.{sets-eq, drop-drop}
use Rattle.lent_slots.specs.Bytes.{little_endian}
use Rattle.lent_slots.proofs.bytes.put_word.Goals as goal

pub returns : goal.returns
unfolding little_endian
returns c =
    let four : c.args.at + 4 - c.args.at ≡ 4 = omega arith in
    let high : c.args.n / 16777216 % 256 ≡ c.args.n / 16777216 = omega arith in
    let bytes = little_endian c.args.n in
    let table = c.args.table.now in
    rw (four, c.copy_from_slice.ensures.after, c.to_le_bytes.ensures, high, drop-drop)
    (sym (sets-eq bytes table c.args.at (omega arith) ∙ append_assoc (take c.args.at table) bytes (drop (c.args.at + 4) table)))
