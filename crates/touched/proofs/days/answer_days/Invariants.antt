use Rattle.std.proofs.Common.{◌-◌, ◌/◌, ◌≡◌, true, length, map}
use Rattle.table_rules.specs.Numbers.{written}
use Rattle.touched.specs.Days.{days_from, days_in, all_possible, answer_for}
use Rattle.touched.specs.Walk.{items_left}
use Rattle.touched.proofs.days.answer_days.Given as goal

abbrev pub invariant-loop-i : goal.invariant-loop-i
invariant-loop-i l = record {
  same_length : length l.answers ≡ length l.initial.answers;
  possible_ahead : all_possible (days_from l.b (length l.b / 12 - l.i) l.i) ≡ true;
  written_so_far : written l.initial.answers 0 (map (answer_for (items_left l.items)) (days_in l.b)) ≡ written l.answers l.i (map (answer_for (items_left l.items)) (days_from l.b (length l.b / 12 - l.i) l.i));
}
