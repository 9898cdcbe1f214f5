-- Record words: 16 to a record, unused words are 0. The last is a place in the sheet: the item's, a head's rule's (docs/RULES.md, 5).
use Rattle.std.specs.Prelude.{ℕ, ◌-◌, List, [], ◌∷◌, ◌++◌, Bool, true, false, ℤ, pos, negsuc, length, replicate, set, Option, Some, None}
use Rattle.records.specs.declared.Day.{Day}
use Rattle.records.specs.declared.Day.TheVariants.{Fixed, Weekday, Easter}
use Rattle.records.specs.declared.Date.{Date}
use Rattle.records.specs.declared.DateOffset.{DateOffset}
use Rattle.records.specs.declared.Time.{Time}
use Rattle.records.specs.declared.Time.TheVariants as time
use Rattle.records.specs.declared.Head.{Head}
use Rattle.records.specs.declared.Item.{Item}
use Rattle.records.specs.declared.Item.TheVariants.{Years, Months, Dates, Weeks, Weekdays, Holidays, Times}

-- 16 words: these, and zeros
abbrev pub record16 : List ℤ → List ℤ
record16 ws = ws ++ replicate (16 - length ws) (pos 0)

-- form, year or 0, month, day or weekday, n signed
abbrev pub day_words : ℕ → Day → List ℤ
day_words y (Fixed m d) = pos 1 ∷ pos y ∷ pos m ∷ pos d ∷ pos 0 ∷ []
day_words y (Weekday m w n) = pos 2 ∷ pos y ∷ pos m ∷ pos w ∷ n ∷ []
day_words y Easter = pos 3 ∷ pos y ∷ pos 0 ∷ pos 0 ∷ pos 0 ∷ []

-- a date's seven words: those, its weekday offset and its day offset
abbrev pub date_words : Date → DateOffset → List ℤ
date_words d o = day_words d.year d.day ++ (o.wday ∷ o.days ∷ [])

-- kind, 0 for a clock time, and minutes
abbrev pub time_words : Time → List ℤ
time_words (time.Fixed m) = pos 0 ∷ pos m ∷ []
time_words (time.Dawn m) = pos 1 ∷ m ∷ []
time_words (time.Sunrise m) = pos 2 ∷ m ∷ []
time_words (time.Sunset m) = pos 3 ∷ m ∷ []
time_words (time.Dusk m) = pos 4 ∷ m ∷ []

-- the repeat in minutes or -1
abbrev pub repeat_word : Option ℕ → ℤ
repeat_word None = negsuc 0
repeat_word (Some m) = pos m

-- open end 0/1, a time alone 0/1
abbrev pub bit : Bool → ℤ
bit false = pos 0
bit true = pos 1

-- the words of an item that are used
abbrev pub item_words : Item → List ℤ
item_words (Years r) = pos 2 ∷ pos r.first ∷ pos r.last ∷ pos r.step ∷ []
item_words (Months r) = pos 3 ∷ pos r.year ∷ pos r.first ∷ pos r.last ∷ []
item_words (Dates r) = pos 4 ∷ date_words r.start r.start_offset ++ date_words r.end r.end_offset
item_words (Weeks r) = pos 5 ∷ pos r.first ∷ pos r.last ∷ pos r.step ∷ []
item_words (Weekdays r) = pos 6 ∷ pos r.first ∷ pos r.last ∷ r.days ∷ pos r.starts ∷ pos r.ends ∷ []
item_words (Holidays r) = pos 7 ∷ pos r.kind ∷ r.days ∷ []
item_words (Times r) = pos 8 ∷ time_words r.start ++ time_words r.end ++ (repeat_word r.repeats ∷ bit r.open_end ∷ bit r.point ∷ [])

-- the 16 words of an item
unfoldable pub words_of : Item → List ℤ
words_of a = record16 (item_words a)

-- a record with its place, in word 15
abbrev pub placed_at : ℕ → List ℤ → List ℤ
placed_at place ws = set ws 15 (pos place)

-- an item, and its place
abbrev pub Placed : Type 0
Placed = Item × ℕ

-- a head: separator; state; comment start; its length; number of items; and its rule's place
unfoldable pub head_words : Head → List ℤ
head_words h = placed_at h.place (record16 (pos 1 ∷ pos h.separator ∷ pos h.state ∷ pos (h.comment).start ∷ pos (h.comment).length ∷ pos h.items ∷ []))

-- an item, and its place
unfoldable pub item_record : Placed → List ℤ
item_record a = placed_at a.1 (words_of a.0)
