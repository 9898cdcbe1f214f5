use Rattle.std.proofs.Common.{◌≡◌, ◌+◌, ◌-◌, ◌≤◌, ◌^◌}
use Rattle.months.specs.Masks.{month_in}
use Rattle.months.proofs.Laws.{masked}
use Rattle.months.proofs.masks.mask_of.Given as goal

abbrev pub invariant-loop-m : goal.invariant-loop-m
invariant-loop-m l = (l.mask ≡ masked (month_in l.can) (l.m - 1)) × (l.mask + 1 ≤ 2 ^ (l.m - 1))
