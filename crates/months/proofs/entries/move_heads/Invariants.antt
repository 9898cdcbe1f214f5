use Rattle.std.proofs.Common.{◌-◌, ◌≡◌, length}
use Rattle.months.specs.Entries.{heads_moved}
use Rattle.months.proofs.entries.move_heads.Given as goal

abbrev pub invariant-loop-i : goal.invariant-loop-i
invariant-loop-i l = record {
  same_length : length l.list ≡ length l.initial.list;
  moved_so_far : heads_moved l.old l.new l.initial.list l.from (l.to - l.from) ≡ heads_moved l.old l.new l.list l.i (l.to - l.i);
}
