use Rattle.std.proofs.Common.{rules}
use mathlib.Core.Bool.{false}
use mathlib.Core.Path.{◌≡◌}
use Rattle.records.specs.Ranges.{between}
use Rattle.records.specs.Fits.{is_kind, item_fits}
use Rattle.records.proofs.fits.item_fits.Goals as goal

pub returns-in_default : goal.returns-in_default
unfolding item_fits between
returns-in_default c =
    let two : is_kind 2 c.args.w ≡ false = search rules in
    let three : is_kind 3 c.args.w ≡ false = search rules in
    let four : is_kind 4 c.args.w ≡ false = search rules in
    let five : is_kind 5 c.args.w ≡ false = search rules in
    let six : is_kind 6 c.args.w ≡ false = search rules in
    let seven : is_kind 7 c.args.w ≡ false = search rules in
    let eight : is_kind 8 c.args.w ≡ false = search rules in
    rw (two, three, four, five, six, seven, eight)
