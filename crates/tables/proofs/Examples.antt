-- The tables of docs/04-readings.md, sections 4 and 15.2: which of them fit.
use mathlib.Core.List.{List, [], ◌∷◌, ◌++◌}
use mathlib.Core.Bool.{Bool, true, false, ◌&&◌}
use mathlib.Core.Path.{◌≡◌, refl}
use lib.IntN.{ℤ, pos, negsuc}
use Rattle.records.specs.Words.{record16}
use Rattle.records.specs.Ranges.{between, year, nth}
use Rattle.records.specs.Fits.{passes, unused, date_fits, time_fits, head_fits, item_fits}
use Rattle.lent_slots.specs.Slots.{record_at, slots, is_whole, records_from}
use Rattle.tables.specs.Tables.{cut, all_fit, rule_fits, rules_fit, records_fit, table_fits}

-- tables, and whether they fit
abbrev pub cases : List (List ℤ × Bool)
cases =
    -- {1 0 0 0 0 1 / 2 2022 2020 1} 0
    (record16 (pos 1 ∷ pos 0 ∷ pos 0 ∷ pos 0 ∷ pos 0 ∷ pos 1 ∷ []) ++ record16 (pos 2 ∷ pos 2022 ∷ pos 2020 ∷ pos 1 ∷ []), true) ∷
    -- {1 0 0 0 0 1 / 2 2020 2022 9} 0
    (record16 (pos 1 ∷ pos 0 ∷ pos 0 ∷ pos 0 ∷ pos 0 ∷ pos 1 ∷ []) ++ record16 (pos 2 ∷ pos 2020 ∷ pos 2022 ∷ pos 9 ∷ []), true) ∷
    -- {1 0 0 0 0 1 / 5 5 1 1} 0
    (record16 (pos 1 ∷ pos 0 ∷ pos 0 ∷ pos 0 ∷ pos 0 ∷ pos 1 ∷ []) ++ record16 (pos 5 ∷ pos 5 ∷ pos 1 ∷ pos 1 ∷ []), true) ∷
    -- {1 0 0 0 0 1 / 6 1 1 0 0 0} 0
    (record16 (pos 1 ∷ pos 0 ∷ pos 0 ∷ pos 0 ∷ pos 0 ∷ pos 1 ∷ []) ++ record16 (pos 6 ∷ pos 1 ∷ pos 1 ∷ pos 0 ∷ pos 0 ∷ pos 0 ∷ []), true) ∷
    -- {1 0 0 0 0 1 / 8 0 600 0 720 30 1} 0
    (record16 (pos 1 ∷ pos 0 ∷ pos 0 ∷ pos 0 ∷ pos 0 ∷ pos 1 ∷ []) ++ record16 (pos 8 ∷ pos 0 ∷ pos 600 ∷ pos 0 ∷ pos 720 ∷ pos 30 ∷ pos 1 ∷ []), true) ∷
    -- {1 0 0 0 0 1 / 8 0 600 0 720 -1 0 1} 0
    (record16 (pos 1 ∷ pos 0 ∷ pos 0 ∷ pos 0 ∷ pos 0 ∷ pos 1 ∷ []) ++ record16 (pos 8 ∷ pos 0 ∷ pos 600 ∷ pos 0 ∷ pos 720 ∷ negsuc 0 ∷ pos 0 ∷ pos 1 ∷ []), true) ∷
    -- {1 0 0 0 0 1 / 6 1 5 2 1 0} 0
    (record16 (pos 1 ∷ pos 0 ∷ pos 0 ∷ pos 0 ∷ pos 0 ∷ pos 1 ∷ []) ++ record16 (pos 6 ∷ pos 1 ∷ pos 5 ∷ pos 2 ∷ pos 1 ∷ pos 0 ∷ []), true) ∷
    -- {1 0 0 0 0 1 / 4 1 9999 12 31 0 0 0 1 10000 1 1} 0
    (record16 (pos 1 ∷ pos 0 ∷ pos 0 ∷ pos 0 ∷ pos 0 ∷ pos 1 ∷ []) ++ record16 (pos 4 ∷ pos 1 ∷ pos 9999 ∷ pos 12 ∷ pos 31 ∷ pos 0 ∷ pos 0 ∷ pos 0 ∷ pos 1 ∷ pos 10000 ∷ pos 1 ∷ pos 1 ∷ []), true) ∷
    -- {1 0 0 0 0 1 / 4 1 2020 12 31 0 0 0 1 10000 7 9} 0
    (record16 (pos 1 ∷ pos 0 ∷ pos 0 ∷ pos 0 ∷ pos 0 ∷ pos 1 ∷ []) ++ record16 (pos 4 ∷ pos 1 ∷ pos 2020 ∷ pos 12 ∷ pos 31 ∷ pos 0 ∷ pos 0 ∷ pos 0 ∷ pos 1 ∷ pos 10000 ∷ pos 7 ∷ pos 9 ∷ []), true) ∷
    -- {1 0 0 0 0 1 / 4 1 9999 12 31 0 0 0 3 10000} 16
    (record16 (pos 1 ∷ pos 0 ∷ pos 0 ∷ pos 0 ∷ pos 0 ∷ pos 1 ∷ []) ++ record16 (pos 4 ∷ pos 1 ∷ pos 9999 ∷ pos 12 ∷ pos 31 ∷ pos 0 ∷ pos 0 ∷ pos 0 ∷ pos 3 ∷ pos 10000 ∷ []), false) ∷
    -- {1 0 0 0 0 1 / 4 1 10000 1 1 0 0 0 1 0 1 1} 16
    (record16 (pos 1 ∷ pos 0 ∷ pos 0 ∷ pos 0 ∷ pos 0 ∷ pos 1 ∷ []) ++ record16 (pos 4 ∷ pos 1 ∷ pos 10000 ∷ pos 1 ∷ pos 1 ∷ pos 0 ∷ pos 0 ∷ pos 0 ∷ pos 1 ∷ pos 0 ∷ pos 1 ∷ pos 1 ∷ []), false) ∷
    -- {1 0 0 0 0 1 / 2 1900 9999 32767} 0
    (record16 (pos 1 ∷ pos 0 ∷ pos 0 ∷ pos 0 ∷ pos 0 ∷ pos 1 ∷ []) ++ record16 (pos 2 ∷ pos 1900 ∷ pos 9999 ∷ pos 32767 ∷ []), true) ∷
    -- {1 0 0 0 0 1 / 5 1 53 255} 0
    (record16 (pos 1 ∷ pos 0 ∷ pos 0 ∷ pos 0 ∷ pos 0 ∷ pos 1 ∷ []) ++ record16 (pos 5 ∷ pos 1 ∷ pos 53 ∷ pos 255 ∷ []), true) ∷
    -- {1 0 0 0 0 1 / 5 1 53 256} 16
    (record16 (pos 1 ∷ pos 0 ∷ pos 0 ∷ pos 0 ∷ pos 0 ∷ pos 1 ∷ []) ++ record16 (pos 5 ∷ pos 1 ∷ pos 53 ∷ pos 256 ∷ []), false) ∷
    -- {1 2} 0
    (record16 (pos 1 ∷ pos 2 ∷ []), true) ∷
    -- {1 0 0 7} 0
    (record16 (pos 1 ∷ pos 0 ∷ pos 0 ∷ pos 7 ∷ []), true) ∷
    -- {1 0 0 -1} 16
    (record16 (pos 1 ∷ pos 0 ∷ pos 0 ∷ negsuc 0 ∷ []), false) ∷
    -- {1 0 0 0 0 2 / 8 0 600 0 720 -1 / 6 1 1 0 31 31} 0
    (record16 (pos 1 ∷ pos 0 ∷ pos 0 ∷ pos 0 ∷ pos 0 ∷ pos 2 ∷ []) ++ record16 (pos 8 ∷ pos 0 ∷ pos 600 ∷ pos 0 ∷ pos 720 ∷ negsuc 0 ∷ []) ++ record16 (pos 6 ∷ pos 1 ∷ pos 1 ∷ pos 0 ∷ pos 31 ∷ pos 31 ∷ []), true) ∷
    -- {1 0 0 0 0 1 / 4 1 0 1 1 1 0 0 1 0 1 1 1} 16
    (record16 (pos 1 ∷ pos 0 ∷ pos 0 ∷ pos 0 ∷ pos 0 ∷ pos 1 ∷ []) ++ record16 (pos 4 ∷ pos 1 ∷ pos 0 ∷ pos 1 ∷ pos 1 ∷ pos 1 ∷ pos 0 ∷ pos 0 ∷ pos 1 ∷ pos 0 ∷ pos 1 ∷ pos 1 ∷ pos 1 ∷ []), false) ∷
    -- {1 0 0 0 0 1 / 4 3 0 1 0 0 0 0 3 0 1} 16
    (record16 (pos 1 ∷ pos 0 ∷ pos 0 ∷ pos 0 ∷ pos 0 ∷ pos 1 ∷ []) ++ record16 (pos 4 ∷ pos 3 ∷ pos 0 ∷ pos 1 ∷ pos 0 ∷ pos 0 ∷ pos 0 ∷ pos 0 ∷ pos 3 ∷ pos 0 ∷ pos 1 ∷ []), false) ∷
    -- {1 0 0 0 0 1 / 4 2 0 1 1 0 0 0 2 0 1 1 0} 16
    (record16 (pos 1 ∷ pos 0 ∷ pos 0 ∷ pos 0 ∷ pos 0 ∷ pos 1 ∷ []) ++ record16 (pos 4 ∷ pos 2 ∷ pos 0 ∷ pos 1 ∷ pos 1 ∷ pos 0 ∷ pos 0 ∷ pos 0 ∷ pos 2 ∷ pos 0 ∷ pos 1 ∷ pos 1 ∷ pos 0 ∷ []), false) ∷
    -- {1 0 0 0 0 1 / 8 3 1440 0 2880 1439} 0
    (record16 (pos 1 ∷ pos 0 ∷ pos 0 ∷ pos 0 ∷ pos 0 ∷ pos 1 ∷ []) ++ record16 (pos 8 ∷ pos 3 ∷ pos 1440 ∷ pos 0 ∷ pos 2880 ∷ pos 1439 ∷ []), true) ∷
    -- {1 0 0 0 0 1 / 8 0 1441 0 1442 -1} 16
    (record16 (pos 1 ∷ pos 0 ∷ pos 0 ∷ pos 0 ∷ pos 0 ∷ pos 1 ∷ []) ++ record16 (pos 8 ∷ pos 0 ∷ pos 1441 ∷ pos 0 ∷ pos 1442 ∷ negsuc 0 ∷ []), false) ∷
    -- {1 0 0 0 0 0 0 0 0 0 0 0 0 0 0 5} 0
    (record16 (pos 1 ∷ pos 0 ∷ pos 0 ∷ pos 0 ∷ pos 0 ∷ pos 0 ∷ pos 0 ∷ pos 0 ∷ pos 0 ∷ pos 0 ∷ pos 0 ∷ pos 0 ∷ pos 0 ∷ pos 0 ∷ pos 0 ∷ pos 5 ∷ []), true) ∷
    -- {1 0 0 0 0 0 0 0 0 0 0 0 0 0 0 -1} 16
    (record16 (pos 1 ∷ pos 0 ∷ pos 0 ∷ pos 0 ∷ pos 0 ∷ pos 0 ∷ pos 0 ∷ pos 0 ∷ pos 0 ∷ pos 0 ∷ pos 0 ∷ pos 0 ∷ pos 0 ∷ pos 0 ∷ pos 0 ∷ negsuc 0 ∷ []), false) ∷
    -- {1 0 0 0 0 1 / 8 0 600 0 600 -1 0 1} 0
    (record16 (pos 1 ∷ pos 0 ∷ pos 0 ∷ pos 0 ∷ pos 0 ∷ pos 1 ∷ []) ++ record16 (pos 8 ∷ pos 0 ∷ pos 600 ∷ pos 0 ∷ pos 600 ∷ negsuc 0 ∷ pos 0 ∷ pos 1 ∷ []), true) ∷
    -- {1 0 0 0 0 1 / 6 1 1 0 31 31 0 1} 16
    (record16 (pos 1 ∷ pos 0 ∷ pos 0 ∷ pos 0 ∷ pos 0 ∷ pos 1 ∷ []) ++ record16 (pos 6 ∷ pos 1 ∷ pos 1 ∷ pos 0 ∷ pos 31 ∷ pos 31 ∷ pos 0 ∷ pos 1 ∷ []), false) ∷
    []

abbrev same : Bool → Bool → Bool
same true b = b
same false true = false
same false false = true

unfoldable pub so : List (List ℤ × Bool) → Bool
so [] = true
so (c ∷ cs) = same (table_fits (c.0, [])) c.1 && so cs

pub cases_so : so cases ≡ true
unfolding so between year nth passes unused date_fits time_fits head_fits item_fits record_at slots is_whole records_from cut all_fit rule_fits rules_fit records_fit table_fits
cases_so = refl

-- no table, and words left over
pub none_no : table_fits ([], []) ≡ false
unfolding table_fits is_whole records_fit records_from slots cut
none_no = refl

pub left_over : table_fits (record16 (pos 1 ∷ []) ++ pos 0 ∷ [], []) ≡ false
unfolding table_fits is_whole
left_over = refl
