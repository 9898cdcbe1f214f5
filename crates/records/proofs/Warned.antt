-- An item calls for few warnings: a date has three names at most, and an item two dates.
use Prim.Native.Nat.{◌≤◌}
use mathlib.Core.Bool.{Bool, true, false}
use native.Mathlib.Omega.{arith}
use Rattle.records.specs.Warnings.{once, item_warnings}
use Rattle.records.specs.declared.Item.{Item}
use Rattle.records.specs.declared.Item.TheVariants.{Years, Months, Dates, Weeks, Weekdays, Holidays, Times}

-- a name calls for one at most
pub once_few : (odd : Bool) → once odd ≤ 1
once_few true = omega arith
once_few false = omega arith

pub item_warnings_few : (a : Item) → item_warnings a ≤ 6
unfolding item_warnings
item_warnings_few (Years r) = omega arith
item_warnings_few (Months r) = omega (arith, once_few r.odd_first, once_few r.odd_last)
item_warnings_few (Dates r) =
    let o = r.odd_start in
    let p = r.odd_end in
    omega (arith, once_few o.name, once_few o.weekday, once_few o.offset, once_few p.name, once_few p.weekday, once_few p.offset)
item_warnings_few (Weeks r) = omega arith
item_warnings_few (Weekdays r) = omega (arith, once_few r.odd_first, once_few r.odd_last)
item_warnings_few (Holidays r) = omega arith
item_warnings_few (Times r) = omega (arith, once_few r.odd_start, once_few r.odd_end)
