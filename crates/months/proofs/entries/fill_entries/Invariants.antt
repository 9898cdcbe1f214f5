use Rattle.std.proofs.Common.{◌+◌, ◌*◌, ◌≤◌, ◌≡◌, length}
use Rattle.std.specs.Iterator.Adapters.{enumerate_source, enumerate_count}
use Rattle.table_rules.specs.Numbers.{written}
use Rattle.months.specs.Entries.{entries_of}
use Rattle.months.specs.Walk.{rules_left}
use Rattle.months.proofs.entries.fill_entries.Given as goal

abbrev pub invariant-loop-i : goal.invariant-loop-i
invariant-loop-i l = record {
  same_length : length l.list ≡ length l.initial.list;
  room : (l.first + enumerate_count l.i-iterator + length (rules_left (enumerate_source l.i-iterator))) * 8 ≤ length l.initial.list;
  written_so_far : written l.initial.list (l.first * 2) (entries_of l.base (rules_left l.fn.rules)) ≡ written l.list ((l.first + enumerate_count l.i-iterator) * 2) (entries_of l.base (rules_left (enumerate_source l.i-iterator)));
}
