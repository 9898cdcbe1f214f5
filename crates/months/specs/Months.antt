-- The months that a rule's month-day items can touch in any year (docs/RULES.md, 12).
use Rattle.std.specs.Prelude.{ℕ, ◌+◌, Bool, true, false, ◌&&◌, ◌||◌, not, List, [], ◌∷◌, leb, eqb, ℤ, if◌then◌else◌}
use Rattle.std.specs.Int.Signed.{le_z}
use Rattle.records.specs.declared.Day.{Day}
use Rattle.records.specs.declared.Day.TheVariants.{Fixed, Weekday, Easter}
use Rattle.records.specs.declared.DateSpan.{DateSpan}
use Rattle.records.specs.declared.Item.{Item}
use Rattle.records.specs.declared.Item.TheVariants.{Years, Months, Dates, Weeks, Weekdays, Holidays, Times}
use Rattle.touched.specs.Selectors.{round, no_offset}
use Rattle.touched.specs.Kinds.{of_kind}

unfoldable pub same_z : ℤ → ℤ → Bool
same_z a b = le_z a b && le_z b a

-- both ends in one month: it touches that one if the ends are equal, or both fixed and the end day not less
unfoldable pub stays_in : Day → Day → Bool
stays_in (Fixed m d) (Fixed n e) = leb d e
stays_in (Fixed m d) (Weekday n w k) = false
stays_in (Fixed m d) Easter = false
stays_in (Weekday m v j) (Weekday n w k) = eqb v w && same_z j k
stays_in (Weekday m v j) (Fixed n e) = false
stays_in (Weekday m v j) Easter = false
stays_in Easter b = false

-- the months from the start's to the end's, going round; all of them where both ends are in one month and the span does not stay in it
abbrev pub span_can : ℕ → ℕ → Bool → ℕ → Bool
span_can a b stays m = if eqb a b && not stays then true else round a b m

-- easter in an end: all months
unfoldable pub ends_can : Day → Day → ℕ → Bool
ends_can (Fixed m d) (Fixed n e) = span_can m n (stays_in (Fixed m d) (Fixed n e))
ends_can (Fixed m d) (Weekday n w k) = span_can m n (stays_in (Fixed m d) (Weekday n w k))
ends_can (Fixed m d) Easter = λ x. true
ends_can (Weekday m v j) (Fixed n e) = span_can m n (stays_in (Weekday m v j) (Fixed n e))
ends_can (Weekday m v j) (Weekday n w k) = span_can m n (stays_in (Weekday m v j) (Weekday n w k))
ends_can (Weekday m v j) Easter = λ x. true
ends_can Easter b = λ x. true

-- an offset, or a year in an end: all months
unfoldable pub dates_can : DateSpan → ℕ → Bool
dates_can r m =
    if (no_offset r.start_offset && no_offset r.end_offset) && (eqb (r.start).year 0 && eqb (r.end).year 0) then ends_can (r.start).day (r.end).day m
    else true

-- whether an item can touch month m; only month-day items are asked
unfoldable pub item_can : Item → ℕ → Bool
item_can (Years r) m = false
item_can (Months r) m = round r.first r.last m
item_can (Dates r) m = dates_can r m
item_can (Weeks r) m = false
item_can (Weekdays r) m = false
item_can (Holidays r) m = false
item_can (Times r) m = false

unfoldable pub any_can : List Item → ℕ → Bool
any_can [] m = false
any_can (a ∷ l) m = item_can a m || any_can l m

-- no month-day items: all months
abbrev pub list_can : List Item → ℕ → Bool
list_can [] m = true
list_can (a ∷ l) m = any_can (a ∷ l) m

-- whether a rule's items can touch month m
unfoldable pub rule_can : List Item → ℕ → Bool
rule_can l = list_can (of_kind 2 l)

-- a set of months as a number: bit m - 1 for month m
abbrev pub bit_of : Bool → ℕ → ℕ
bit_of t n = if t then n else 0

abbrev pub first_half : (ℕ → Bool) → ℕ
first_half f = bit_of (f 1) 1 + bit_of (f 2) 2 + bit_of (f 3) 4 + bit_of (f 4) 8 + bit_of (f 5) 16 + bit_of (f 6) 32

abbrev pub second_half : (ℕ → Bool) → ℕ
second_half f = bit_of (f 7) 64 + bit_of (f 8) 128 + bit_of (f 9) 256 + bit_of (f 10) 512 + bit_of (f 11) 1024 + bit_of (f 12) 2048

unfoldable pub mask : (ℕ → Bool) → ℕ
mask f = first_half f + second_half f

abbrev pub rule_mask : List Item → ℕ
rule_mask l = mask (rule_can l)
