use native.Mathlib.Omega.{arith}
use Rattle.notes.proofs.Noted.{in_sheet, in_note, cut_sheet, cut_note}
use Rattle.notes.proofs.note.Goals as goal

pub slice_bounds-result-count : goal.slice_bounds-result-count
slice_bounds-result-count c = (in_sheet c.args.sheet c.args.standing _ _ c.ranges.start c.ranges.length c.in-Sheet.ensures).0

pub slice_bounds-result-start : goal.slice_bounds-result-start
slice_bounds-result-start c = omega (arith, in_sheet c.args.sheet c.args.standing _ _ c.ranges.start c.ranges.length c.in-Sheet.ensures)

pub slice_bounds-result-end : goal.slice_bounds-result-end
slice_bounds-result-end c = omega (arith, in_sheet c.args.sheet c.args.standing _ _ c.ranges.start c.ranges.length c.in-Sheet.ensures)

pub slice_bounds-result-count-in-Standing : goal.slice_bounds-result-count-in-Standing
slice_bounds-result-count-in-Standing c = (in_note c.args.sheet c.args.standing _ _ c.ranges.start c.ranges.length c.in-Standing.ensures).0

pub slice_bounds-result-start-in-Standing : goal.slice_bounds-result-start-in-Standing
slice_bounds-result-start-in-Standing c = omega (arith, in_note c.args.sheet c.args.standing _ _ c.ranges.start c.ranges.length c.in-Standing.ensures)

pub slice_bounds-result-end-in-Standing : goal.slice_bounds-result-end-in-Standing
slice_bounds-result-end-in-Standing c = omega (arith, in_note c.args.sheet c.args.standing _ _ c.ranges.start c.ranges.length c.in-Standing.ensures)

pub returns-in-Sheet : goal.returns-in-Sheet
returns-in-Sheet c = cut_sheet c.args.sheet c.args.standing _ _ c.ranges.start c.ranges.length c.in-Sheet.ensures

pub returns-in-Standing : goal.returns-in-Standing
returns-in-Standing c = cut_note c.args.sheet c.args.standing _ _ c.ranges.start c.ranges.length c.in-Standing.ensures
