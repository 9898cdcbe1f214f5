use Prim.Native.Nat.{◌*◌, ◌≤◌}
use native.Mathlib.Omega.{arith}
use mathlib.Core.Path.{sym, ap, ◌∙◌}
use lib.ListN.{length}
use lib.Seq.{length-take-le}
use Rattle.lent_slots.specs.Tables.{Tables}
use Rattle.parts.proofs.PartLaws.{begins_fits, end_fits}
use Rattle.sheet.proofs.Readings.{part_long, part_nowhere, part_text}
use Rattle.sheet.proofs.part_readings.part_into.Goals as goal

pub returns-then-sheet-gt-LONGEST : goal.returns-then-sheet-gt-LONGEST
returns-then-sheet-gt-LONGEST c = let tables : Tables = (c.args.words.now, c.args.bytes.now) in
    ap (λ r. (r, tables)) c.part_refusal.ensures ∙ part_long c.args.m tables c.args.sheet.now c.args.place (c.args.room * 16) c.if-sheet-gt-LONGEST.true

pub slice_bounds-read_text-end : goal.slice_bounds-read_text-end
slice_bounds-read_text-end c = sym (length-take-le c.part_end-e.result c.args.sheet.now (let told : c.part_end-e.result ≤ length c.args.sheet.now = omega (arith, c.part_end-e.ensures, end_fits c.args.sheet.now c.args.place (begins_fits c.args.sheet.now c.args.place (sym c.begins.ensures ∙ c.if-not-begins.false))) in told))

pub read_text-a-requires : goal.read_text-a-requires
read_text-a-requires c = omega (arith, length-take-le c.part_end-e.result c.args.sheet.now (let told : c.part_end-e.result ≤ length c.args.sheet.now = omega (arith, c.part_end-e.ensures, end_fits c.args.sheet.now c.args.place (begins_fits c.args.sheet.now c.args.place (sym c.begins.ensures ∙ c.if-not-begins.false))) in told), (let told : c.part_end-e.result ≤ length c.args.sheet.now = omega (arith, c.part_end-e.ensures, end_fits c.args.sheet.now c.args.place (begins_fits c.args.sheet.now c.args.place (sym c.begins.ensures ∙ c.if-not-begins.false))) in told))

pub returns : goal.returns
returns c = let its-text = rw c.part_end-e.ensures at c.read_text-a.ensures in
    rw (c.with_next.ensures, c.part_end-e.ensures)
    (part_text c.args.m (c.args.words.now, c.args.bytes.now) c.args.sheet.now c.args.place (c.args.room * 16) c.if-sheet-gt-LONGEST.false (sym c.begins.ensures ∙ c.if-not-begins.false) its-text)

pub returns-then-not-begins : goal.returns-then-not-begins
returns-then-not-begins c = let tables : Tables = (c.args.words.now, c.args.bytes.now) in
    let no_part = sym c.begins.ensures ∙ c.if-not-begins.true in
    ap (λ r. (r, tables)) c.part_refusal-then-not-begins.ensures ∙ part_nowhere c.args.m tables c.args.sheet.now c.args.place (c.args.room * 16) c.if-sheet-gt-LONGEST.false no_part
