-- Entry: `n`, `n-n`, `-n`. Entries set flag n; a descending pair sets none (docs/RULES.md, 2).
use Rattle.std.specs.Prelude.{ℕ, ◌+◌, List, [], ◌∷◌, Bool, true, false, ◌&&◌, ◌||◌, if◌then◌else◌}
use Rattle.names.specs.Tests.{within}
use Rattle.names.specs.Read.{Reader, pure, ◌>>=◌, ◌>>◌, ◌or◌, maybe}
use Rattle.names.specs.Chain.{many}
use Rattle.names.specs.Texts.{sign}
use Rattle.names.specs.Numbers.{ordinal}
use Rattle.days.specs.declared.Flags.{Flags}
use Rattle.days.specs.declared.Entry.{Entry}
use Rattle.days.specs.declared.Marks.{Marks}

-- an entry, from the month's end or not
abbrev pub entry_of : Bool → ℕ → ℕ → Entry
entry_of back first last = record { back = back; first = first; last = last }

-- `-n`
unfoldable pub back_entry : Reader Entry
back_entry = do
  sign "-"
  n ← ordinal
  pure (entry_of true n n)

-- `n` or `n-n`
unfoldable pub front_entry : Reader Entry
front_entry = do
  n ← ordinal
  last ← maybe (do sign "-"; ordinal) n
  pure (entry_of false n last)

-- entry: `n`, `n-n`, `-n`
unfoldable pub entry : Reader Entry
entry = back_entry or front_entry

-- a comma and an entry
unfoldable pub next_entry : Reader Entry
next_entry = do
  sign ","
  entry

-- no flag
abbrev pub no_flags : Flags
no_flags = record { one = false; two = false; three = false; four = false; five = false }

-- flag n of those that were set, with those from first to last: a descending pair sets none
abbrev pub set : Bool → ℕ → ℕ → ℕ → Bool
set old first last n = old || within first last n

-- these flags, with those from first to last
unfoldable pub set_all : Flags → ℕ → ℕ → Flags
set_all f first last = record { one = set f.one first last 1; two = set f.two first last 2; three = set f.three first last 3; four = set f.four first last 4; five = set f.five first last 5 }

-- n from 1 to 5
unfoldable pub good_entry : Entry → Bool
good_entry e = within 1 5 e.first && within 1 5 e.last

-- no entry yet
abbrev pub no_marks : Marks
no_marks = record { starts = no_flags; ends = no_flags; good = true }

-- what one entry more sets
unfoldable pub marked : Marks → Entry → Marks
marked m e =
    if e.back then record { starts = m.starts; ends = set_all m.ends e.first e.last; good = m.good && good_entry e }
    else record { starts = set_all m.starts e.first e.last; ends = m.ends; good = m.good && good_entry e }

-- what entries set, one after another
unfoldable pub marked_all : Marks → List Entry → Marks
marked_all m [] = m
marked_all m (e ∷ es) = marked_all (marked m e) es

-- one or more entries, commas between: what they set
unfoldable pub entries : Reader Marks
entries = do
  e ← entry
  es ← many next_entry
  pure (marked_all (marked no_marks e) es)

-- bit n-1 for n
abbrev pub bit : Bool → ℕ → ℕ
bit true n = n
bit false n = 0

unfoldable pub bits : Flags → ℕ
bits f = bit f.one 1 + bit f.two 2 + bit f.three 4 + bit f.four 8 + bit f.five 16
