use Prim.Native.Nat.{◌*◌}
use native.Mathlib.Omega.{arith}
use mathlib.Core.Path.{ap, ◌∙◌}
use Rattle.lent_slots.specs.Tables.{Tables}
use Rattle.sheet.proofs.Readings.{sheet_long, sheet_text_lem}
use Rattle.sheet.proofs.sheets.sheet_into.Goals as goal

pub returns-then-sheet-gt-LONGEST : goal.returns-then-sheet-gt-LONGEST
returns-then-sheet-gt-LONGEST c = let u : Tables = (c.args.words.now, c.args.bytes.now) in
    ap (λ r. (r, u)) c.refusal.ensures ∙ sheet_long c.args.m u c.args.sheet.now (c.args.room * 16) c.if-sheet-gt-LONGEST.true

pub read_text-requires : goal.read_text-requires
read_text-requires c = omega arith

pub returns : goal.returns
returns c = c.read_text.ensures ∙ sheet_text_lem c.args.m (c.args.words.now, c.args.bytes.now) c.args.sheet.now (c.args.room * 16) c.if-sheet-gt-LONGEST.false
