use Prim.Native.Nat.{ℕ, ◌+◌, ◌≤◌, ◌<◌}
use borrow.Author.Tests.{le-leb, lt-leb}
use native.Mathlib.Omega.{arith}
use native.Mathlib.Numerals.{add-one}
use mathlib.Core.Bool.{true, false, ◌&&◌, not}
use mathlib.Core.List.{List}
use mathlib.Core.Path.{◌≡◌, sym, ap, ◌∙◌}
use lib.ListN.{length, get_or}
use lib.Seq.{slice}
use Rattle.names.specs.Names.{holiday, spelled_so}
use Rattle.names.specs.Spellings.{all_small, well_begun, warns, odd}
use Rattle.names.proofs.Odd.{written_first, cut_slice}
use Rattle.names.proofs.Cursor.odd.Goals as goal

-- a name that may stand in any case: its first letter, and then the others
judged : (kind : ℕ) (s : List ℕ) (i t : ℕ) → spelled_so kind ≡ false → i < t → t ≤ length s →
    odd kind s i t ≡ not (well_begun kind (get_or s i 0) && all_small (slice (i + 1) t s))
unfolding odd warns
judged kind s i t e h k = rw (e, add-one i, written_first s i t h k kind)

-- the kinds from holidays on are spelled as they stand, those before in any case
from_holiday : {n kind : ℕ} → n ≡ holiday → n ≤ kind → spelled_so kind ≡ true
unfolding spelled_so
from_holiday e h = le-leb holiday _ (omega (arith, e, h))

before_holiday : {n kind : ℕ} → n ≡ holiday → kind < n → spelled_so kind ≡ false
unfolding spelled_so
before_holiday e h = lt-leb holiday _ (omega (arith, e, h))

pub returns-then-number-kind : goal.returns-then-number-kind
unfolding odd warns
returns-then-number-kind c = rw (from_holiday c.number.ensures c.if-number-kind.true)

pub bounds-s-at : goal.bounds-s-at
bounds-s-at c = omega arith

pub returns-then-well_begun : goal.returns-then-well_begun
returns-then-well_begun c = rw (
  judged _ c.args.s.now c.args.self.at c.args.to.at (before_holiday c.number.ensures c.if-number-kind.false) c.requires.at_lt_at c.requires.at_in_bounds,
  sym c.well_begun.ensures ∙ c.if-well_begun.true,
) (ap not (c.all_small.ensures ∙ ap all_small (cut_slice c.args.s.now _ c.args.to.at (omega arith) ∙ ap (λ k. slice k c.args.to.at c.args.s.now) (omega arith))))

pub returns-else-well_begun : goal.returns-else-well_begun
returns-else-well_begun c = rw (
  judged _ c.args.s.now c.args.self.at c.args.to.at (before_holiday c.number.ensures c.if-number-kind.false) c.requires.at_lt_at c.requires.at_in_bounds,
  sym c.well_begun.ensures ∙ c.if-well_begun.false,
)
