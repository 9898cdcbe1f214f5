-- What an answer of the code says, in the definitions' terms.
use Rattle.std.specs.Prelude.{ℕ, Bool, Option}
use Rattle.names.specs.Read.{Read}
use Rattle.names.specs.Seen.{seen, seen_then}
use Rattle.names.specs.declared.Cursor.{Cursor}
use Rattle.names.specs.declared.Named.{Named}
use Rattle.dates.specs.Dates.{Spelt}
use Rattle.dates.specs.declared.RawDay.{RawDay}

-- a date without its year, and whether its weekday's name calls for a warning
abbrev pub spelt : RawDay → Spelt
spelt d = (d.day, d.odd)

abbrev pub seen_day : Option (RawDay × Cursor) → Read Spelt
seen_day = seen spelt

-- the last month of a span, and whether its name calls for a warning
abbrev pub then_month : Named × Cursor → Read (ℕ × Bool)
then_month = seen_then (λ n. (n.value, n.odd))
