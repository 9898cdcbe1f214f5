use mathlib.Core.Path.{◌≡◌, refl}
use Rattle.std.specs.Prelude.{None}
use Rattle.items.specs.declared.Kind.{Kind}
use Rattle.items.specs.declared.Kind.TheVariants as kind
use Rattle.rules.specs.Rows.{listed, following, is_wide}
use Rattle.sheet_texts.specs.Items.{has, kind_in}
use Rattle.item_texts.specs.Joints as joints
use Rattle.item_texts.proofs.orders.joint_of.Goals as goal

-- years stand after years alone
no_years : (k : Kind) → (k ≡ kind.Years → ⊥) → None ≡ joints.joint_of k 1
unfolding following has is_wide joints.joint_of kind_in listed
no_years kind.Years n = absurd (n refl)
no_years kind.MonthDays n = refl
no_years kind.Weeks n = refl
no_years kind.WeekNumbers n = refl
no_years kind.Weekdays n = refl
no_years kind.LastWeekdays n = refl
no_years kind.Holidays n = refl
no_years kind.LastHolidays n = refl
no_years kind.Times n = refl

pub returns-in_default : goal.returns-in_default
returns-in_default c = rw c.in_default.is-0 (no_years c.args.k c.in_default.not-Years-1)
