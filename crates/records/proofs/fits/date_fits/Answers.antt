use Rattle.std.proofs.Common.{rules}
use mathlib.Core.Bool.{false}
use mathlib.Core.Path.{◌≡◌}
use mir.Syntax.{w32}
use mir.Facts.{to_z-of_z}
use Rattle.records.specs.Ranges.{between, exactly}
use Rattle.records.specs.Fits.{word_at, passes, date_fits}
use Rattle.records.proofs.fits.date_fits.Goals as goal

pub returns-in-1 : goal.returns-in-1
unfolding date_fits passes between
returns-in-1 c =
    let two : exactly 2 (word_at c.args.d 0) ≡ false = search rules in
    let three : exactly 3 (word_at c.args.d 0) ≡ false = search rules in
    rw (c.fixed_fits.ensures, two, three, to_z-of_z {w = w32} {z = c.args.last} c.ranges.last) (search rules)

pub returns-in_default : goal.returns-in_default
unfolding date_fits passes between
returns-in_default c =
    let one : exactly 1 (word_at c.args.d 0) ≡ false = search rules in
    let two : exactly 2 (word_at c.args.d 0) ≡ false = search rules in
    let three : exactly 3 (word_at c.args.d 0) ≡ false = search rules in
    rw (one, two, three)
