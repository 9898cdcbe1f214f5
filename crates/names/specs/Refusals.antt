-- The refusal numbers: the rows of the rules' table (docs/RULES.md, 6).
use Rattle.std.specs.Prelude.{ℕ}
use Rattle.names.specs.declared.refusals.Reason.{Reason}
use Rattle.names.specs.declared.refusals.Reason.TheVariants as reason

-- over 4,096 bytes
abbrev pub too_long : ℕ
too_long = 1

-- the given place is no part's beginning
abbrev pub no_part : ℕ
no_part = 2

-- no shape fits
abbrev pub no_shape : ℕ
no_shape = 3

-- number out of range
abbrev pub range : ℕ
range = 4

-- week step above 255
abbrev pub week_step : ℕ
week_step = 5

-- years inverted
abbrev pub years_inverted : ℕ
years_inverted = 6

-- weeks inverted
abbrev pub weeks_inverted : ℕ
weeks_inverted = 7

-- point in time
abbrev pub point_in_time : ℕ
point_in_time = 8

-- bare day after easter
abbrev pub easter_day : ℕ
easter_day = 9

-- all else good, more records than whole groups of 16 words in the table
abbrev pub no_room : ℕ
no_room = 10

-- an empty rule
abbrev pub empty_rule : ℕ
empty_rule = 11

-- a quote, and after it another one or none at all
abbrev pub broken_quote : ℕ
broken_quote = 12

-- a comment that is not well-formed UTF-8
abbrev pub ill_formed_comment : ℕ
ill_formed_comment = 13

-- no edition has the given number
abbrev pub unknown_edition : ℕ
unknown_edition = 19

-- a form that the house profile does not allow
abbrev pub house_form : ℕ
house_form = 22

-- in a house sheet a span that ends not after its start, or starts before an earlier one ends
abbrev pub house_order : ℕ
house_order = 23

-- the greatest that the rules of a text are refused by: 19 is given before anything is read, 22 and 23 after all rules are
abbrev pub greatest : ℕ
greatest = ill_formed_comment

-- the number of a reason
abbrev pub number : Reason → ℕ
number reason.TooLong = too_long
number reason.NoPart = no_part
number reason.NoShape = no_shape
number reason.Range = range
number reason.WeekStep = week_step
number reason.YearsInverted = years_inverted
number reason.WeeksInverted = weeks_inverted
number reason.PointInTime = point_in_time
number reason.EasterDay = easter_day
number reason.NoRoom = no_room
number reason.EmptyRule = empty_rule
number reason.BrokenQuote = broken_quote
number reason.IllFormedComment = ill_formed_comment
number reason.UnknownEdition = unknown_edition
number reason.HouseForm = house_form
number reason.HouseOrder = house_order
