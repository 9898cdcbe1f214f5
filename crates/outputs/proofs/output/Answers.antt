use Rattle.std.proofs.Common.{rules, arith, refl, sym, ◌≤◌, ◌/◌, length, length-take, length-take-le}
use Rattle.prints.proofs.Writing.{then}
use Rattle.outputs.specs.Outputs.{output_of}
use Rattle.outputs.proofs.Laws.{records_first}
use Rattle.outputs.proofs.Tables.{few_records, output_lines, all_counted}
use Rattle.outputs.proofs.output.Goals as goal

pub slice_bounds-put_lines-end : goal.slice_bounds-put_lines-end
slice_bounds-put_lines-end c = let few : c.read_sheet-a.result.records ≤ 512 = few_records _ _ refl c.read_sheet-a.ensures in sym (length-take-le c.read_sheet-a.result.records c.as_chunks.result.0.now (omega arith))

pub returns-clause-whole : goal.returns-clause-whole
returns-clause-whole c =
    let sheet = c.args.sheet.now in
    let read = c.read_sheet-a in
    let n = read.result.records in
    let few : n ≤ 512 = few_records _ _ refl read.ensures in
    let both = then c.put_answer.ensures.whole (rw (c.as_chunks.ensures.front, records_first n (length read.new.table / 16) read.new.table (omega arith)) at c.put_lines.ensures.whole) in
    let all = all_counted (output_of sheet) c.args.out.now (rw (output_lines sheet _ refl read.ensures) at both.whole) (omega (arith, c.put_answer.ensures.most, c.put_lines.ensures.most, length-take n c.as_chunks.result.0.now)) in
    let lent = sym both.lent in
    search (rules, all, lent)
