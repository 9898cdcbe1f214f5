-- Which answers and records fit, and what a tally that takes them in answers (02, Ask 4).
use Rattle.std.specs.Prelude.{ℕ, List, Bool, ◌&&◌, ◌||◌, eqb, leb, length, Result, Ok, Err, if◌then◌else◌}
use Rattle.names.specs.Tests.{within}
use Rattle.lent_slots.specs.Tables.{Tables}
use Rattle.lent_slots.specs.Slots.{slots}
use Rattle.tables.specs.Tables.{table_fits}
use Rattle.tallies.specs.Sums.{plus, all_within}
use Rattle.tallies.specs.Counts.{counts_of}
use Rattle.tallies.specs.Refusals.{number}
use Rattle.tallies.specs.declared.Answer.{Answer}
use Rattle.tallies.specs.declared.Tally.{Tally}
use Rattle.tallies.specs.declared.refusals.TallyRefusal.{TallyRefusal}

-- 0, 1, 3 to 13, 19, 22 or 23
unfoldable pub number_fits : ℕ → Bool
number_fits n = leb n 1 || (within 3 13 n || (eqb n 19 || within 22 23 n))

-- an accepted answer: its record number is the count of the lent groups, none left over, and the records fit
abbrev pub accepted_fits : Answer → Tables → Bool
accepted_fits a t = eqb a.records (slots t) && table_fits t

-- a refusal: 0 records, 0 warnings, no words
abbrev pub refused_fits : Answer → Tables → Bool
refused_fits a t = eqb a.records 0 && (eqb a.warnings 0 && (eqb (length t.0) 0 && eqb (length t.1) 0))

unfoldable pub answer_fits : Answer → Tables → Bool
answer_fits a t = number_fits a.number && (if eqb a.number 0 then accepted_fits a t else refused_fits a t)

-- the number, and the counts afterwards: 16 if they do not fit, then 15 if a count would pass the limit; a refusal leaves the counts
unfoldable pub taken_in : List ℕ → Answer → Tables → ℕ × List ℕ
taken_in xs a t =
    if answer_fits a t then
    (if all_within (plus xs (counts_of a t)) then (0, plus xs (counts_of a t)) else (15, xs))
    else (16, xs)

-- what the code's answer says: of a refusal, the counts as they were, xs
abbrev pub numbers : List ℕ → Result Tally TallyRefusal → ℕ × List ℕ
numbers xs (Ok t) = (0, t.counts)
numbers xs (Err r) = (number r, xs)
