-- A span as it is read.
use Rattle.std.specs.Prelude.{ℕ, Bool, Option}
use Rattle.times.specs.Times.{Spelt}

-- a time alone, a time and a plus, or two times and what stands after the end: the repeat, and whether the end is open
pub data RawSpan : Type 0 where
  Alone : Spelt → RawSpan
  Open : Spelt → RawSpan
  Until : Spelt → Spelt → (Option ℕ × Bool) → RawSpan
