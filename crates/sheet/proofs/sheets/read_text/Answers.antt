-- What was kept and put into the tables, or read again, is what they are to have.
use Prim.Native.Nat.{ℕ, ◌*◌}
use native.Mathlib.Omega.{arith}
use mathlib.Core.List.{[]}
use mathlib.Core.Path.{ap, ◌∙◌}
use lib.IntN.{pos}
use lib.ListN.{replicate}
use Rattle.lent_slots.specs.Tables.{Tables}
use Rattle.sheet.specs.Sheets as sheets
use Rattle.sheet.proofs.Readings.{Kept, kept_is, text_refused, again, taken, text_full, text_accepted}
use Rattle.sheet.proofs.sheets.read_text.Goals as goal

-- the tables of our own, before the text is read and after
abbrev empty : Tables
empty = (replicate 112 (pos 0), [])

pub returns-then-room-n : goal.returns-then-room-n
returns-then-room-n c = let u : Tables = (c.args.words.now, c.args.bytes.now) in
    ap (λ r. (r, u)) c.refusal.ensures ∙ text_full c.args.m c.args.s.now c.args.p empty (c.fill_rules.new.words, c.fill_rules.new.bytes) u (let told : Kept c.args.m empty (c.fill_rules.new.words, c.fill_rules.new.bytes) c.args.s.now c.args.p c.in-Ok.counted.records c.in-Ok.counted.warnings = kept_is _ _ _ empty (c.fill_rules.new.words, c.fill_rules.new.bytes) c.in-Ok.ensures in told) c.args.room c.if-room-n.true

pub shape_of-words-then-n-gt-FEW : goal.shape_of-words-then-n-gt-FEW
shape_of-words-then-n-gt-FEW c = c.words-1.given

pub shape_of-bytes-then-n-gt-FEW : goal.shape_of-bytes-then-n-gt-FEW
shape_of-bytes-then-n-gt-FEW c = c.bytes-1.given

pub returns-then-n-gt-FEW : goal.returns-then-n-gt-FEW
returns-then-n-gt-FEW c = let u : Tables = (c.args.words.now, c.args.bytes.now) in
    rw (again c.args.m c.args.s.now c.args.p empty (c.fill_rules.new.words, c.fill_rules.new.bytes) u (let told : Kept c.args.m empty (c.fill_rules.new.words, c.fill_rules.new.bytes) c.args.s.now c.args.p c.in-Ok.counted.records c.in-Ok.counted.warnings = kept_is _ _ _ empty (c.fill_rules.new.words, c.fill_rules.new.bytes) c.in-Ok.ensures in told) c.fill_rules-then-n-gt-FEW.result c.fill_rules-then-n-gt-FEW.ensures)
    (text_accepted c.args.m c.args.s.now c.args.p empty (c.fill_rules.new.words, c.fill_rules.new.bytes) u (let told : Kept c.args.m empty (c.fill_rules.new.words, c.fill_rules.new.bytes) c.args.s.now c.args.p c.in-Ok.counted.records c.in-Ok.counted.warnings = kept_is _ _ _ empty (c.fill_rules.new.words, c.fill_rules.new.bytes) c.in-Ok.ensures in told) c.args.room c.if-room-n.false)

pub shape_of-words-else-n-gt-FEW : goal.shape_of-words-else-n-gt-FEW
shape_of-words-else-n-gt-FEW c = c.words-else-n-gt-FEW-1.given

pub shape_of-bytes-else-n-gt-FEW : goal.shape_of-bytes-else-n-gt-FEW
shape_of-bytes-else-n-gt-FEW c = c.bytes-else-n-gt-FEW-1.given

pub returns-else-n-gt-FEW : goal.returns-else-n-gt-FEW
returns-else-n-gt-FEW c = let u : Tables = (c.args.words.now, c.args.bytes.now) in
    rw (c.put_records.ensures, taken c.args.m c.args.s.now c.args.p empty (c.fill_rules.new.words, c.fill_rules.new.bytes) u (let told : Kept c.args.m empty (c.fill_rules.new.words, c.fill_rules.new.bytes) c.args.s.now c.args.p c.in-Ok.counted.records c.in-Ok.counted.warnings = kept_is _ _ _ empty (c.fill_rules.new.words, c.fill_rules.new.bytes) c.in-Ok.ensures in told) (omega (arith, c.if-n-gt-FEW.false)))
    (text_accepted c.args.m c.args.s.now c.args.p empty (c.fill_rules.new.words, c.fill_rules.new.bytes) u (let told : Kept c.args.m empty (c.fill_rules.new.words, c.fill_rules.new.bytes) c.args.s.now c.args.p c.in-Ok.counted.records c.in-Ok.counted.warnings = kept_is _ _ _ empty (c.fill_rules.new.words, c.fill_rules.new.bytes) c.in-Ok.ensures in told) c.args.room c.if-room-n.false)

pub returns-in-Err : goal.returns-in-Err
returns-in-Err c = let u : Tables = (c.args.words.now, c.args.bytes.now) in
    ap (λ r. (r, u)) (c.refusal-in-Err.ensures ∙ ap (λ (n : ℕ). (sheets.refusal n c.in-Err.refused.place).0) c.number.ensures) ∙ text_refused c.args.m c.args.s.now c.args.p empty u (c.args.room * 16) c.in-Err.ensures
