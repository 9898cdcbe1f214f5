-- Years and weeks: first, last and step (docs/RULES.md, 4).
use Rattle.std.specs.Prelude.{ℕ, ◌-◌, Bool, ◌&&◌, ltb, if◌then◌else◌}
use Rattle.names.specs.Tests.{within}
use Rattle.names.specs.Read.{Reader, pure, ◌>>=◌, ◌>>◌, ◌or◌, maybe}
use Rattle.names.specs.Texts.{sign}
use Rattle.names.specs.Numbers.{count}
use Rattle.records.specs.Items.{good_count}
use Rattle.dates.specs.declared.RawRange.{RawRange}

-- first, last and step as they are read
abbrev pub raw_range : ℕ → ℕ → ℕ → RawRange
raw_range first last step = record { first = first; last = last; step = step }

-- `/N`, or 1
unfoldable pub stepped : Reader ℕ
stepped = maybe (do sign "/"; count) 1

-- after the first: `-` and a last, which m reads, and its step
unfoldable pub until_last : Reader ℕ → ℕ → Reader RawRange
until_last m first = do
  sign "-"
  last ← m
  step ← stepped
  pure (raw_range first last step)

-- the same, or the first alone
abbrev pub range_after : Reader ℕ → ℕ → Reader RawRange
range_after m first = until_last m first or pure (raw_range first first 1)

-- numbers in range: first and last from lo to hi
unfoldable pub good_range : ℕ → ℕ → RawRange → Bool
good_range lo hi r = within lo hi r.first && within lo hi r.last && good_count r.step

-- a step above last minus first becomes 1
unfoldable pub step_of : ℕ → ℕ → ℕ → ℕ
step_of first last step = if ltb (last - first) step then 1 else step
