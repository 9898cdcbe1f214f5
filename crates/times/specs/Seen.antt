-- What an answer of the code says, in the definitions' terms.
use Rattle.std.specs.Prelude.{ℕ, Bool, Option}
use Rattle.names.specs.Read.{Read}
use Rattle.names.specs.Seen.{seen, seen_then}
use Rattle.names.specs.declared.Cursor.{Cursor}
use Rattle.times.specs.Times.{Spelt}
use Rattle.times.specs.declared.SpeltTime.{SpeltTime}
use Rattle.times.specs.declared.Tail.{Tail}

-- a clock time's minutes
abbrev pub seen_clock : Option (ℕ × Cursor) → Read ℕ
seen_clock = seen (λ t. t)

-- a time, and whether the name of its event calls for a warning
abbrev pub spelt : SpeltTime → Spelt
spelt t = (t.time, t.odd)

abbrev pub seen_time : Option (SpeltTime × Cursor) → Read Spelt
seen_time = seen spelt

-- the repeat, and whether the end is open
abbrev pub tail_of : Tail → Option ℕ × Bool
tail_of t = (t.repeats, t.open_end)

-- what is always there, if only as nothing
abbrev pub then_tail : Tail × Cursor → Read (Option ℕ × Bool)
then_tail = seen_then tail_of
