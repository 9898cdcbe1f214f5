-- Every definition open: a statement that says `unfolding opened` computes with all of them.
use Rattle.names.specs.Chain.{chain_in, chain, many, skip}
use Rattle.names.specs.Names.{names, spelled_so, lower, letter, first_of, word, name}
use Rattle.names.specs.Numbers.{is_digit, digit, up_to, digits, clock_after, number}
use Rattle.names.specs.Quotes.{inside_of}
use Rattle.names.specs.Read.{one, ahead, at_end}
use Rattle.names.specs.Spellings.{all_small, well_begun, well_written, warns, odd, named, spelled}
use Rattle.names.specs.Tests.{within}
use Rattle.names.specs.Texts.{byte, all_of, blanks, blank, comma}
use Rattle.calendar.specs.Calendar.{leap, last_of_february, has_thirty, last_of, is_day}
use Rattle.lent_slots.specs.Tables.{laid}
use Rattle.records.specs.Warnings.{item_warnings}
use Rattle.records.specs.Words.{words_of, head_words, item_record}
use Rattle.times.specs.Meanings.{span_meaning}
use Rattle.times.specs.Spans.{repeated, tail, until_time, span_after, span_shape, time_item, event_item_after}
use Rattle.times.specs.Times.{clock, event_of, with_offset, event_with_offset, time}
use Rattle.days.specs.Entries.{back_entry, front_entry, entry, next_entry, set_all, good_entry, marked, marked_all, entries, bits}
use Rattle.days.specs.Holidays.{holiday_after, holiday_shape, holiday_meaning, holiday_item, holiday_item_after}
use Rattle.days.specs.Offsets.{plus_or_minus, day_offset, any_days, wday_offset, offset}
use Rattle.days.specs.Weekdays.{last_weekday, bracketed, until_weekday, with_entries, narrow_after, wide_after, weekday_shape, flagged, weekday_meaning, weekday_item, weekday_item_after}
use Rattle.dates.specs.Dates.{optional_year, back_nth, front_nth, nth, weekday_of, day_of, day_after, date}
use Rattle.dates.specs.Ends.{until_date, bare_day, until, end_shape, dates_after}
use Rattle.dates.specs.BareEnds.{next_year, next_month, month_from, first_with, bare_end, last_day}
use Rattle.dates.specs.Meanings.{date_meaning, month_meaning}
use Rattle.dates.specs.MonthDays.{last_month, month_after, month_item_after, date_item_after, month_day_after, month_day_item}
use Rattle.dates.specs.Ranges.{stepped, until_last, good_range, step_of}
use Rattle.dates.specs.Weeks.{week_shape, week_meaning, week_item}
use Rattle.dates.specs.Years.{year_after, year_shape, year_meaning, year_item, year_item_after}
use Rattle.utf8.specs.Utf8.{octet, utf8_tail, utf8_2, utf8_3, utf8_4, longer}
use Rattle.utf8.specs.Letters.{is_inner, plain, letter as letterOf, letters}
use Rattle.rules.specs.Comments.{closed, ill_formed, comment, comment_apart}
use Rattle.items.specs.Kinds.{weeks, item_of, item_in}
use Rattle.rules.specs.Rows.{listed, following, is_wide}
use Rattle.rules.specs.Modifiers.{with_comment, modifier}
use Rattle.items.specs.Musts.{has_quote, at_broken_quote, missing_at, missing}
use Rattle.rules.specs.Pieces.{goes_on, colon_sign, colon, empty, more, plain_end, end}
use Rattle.rules.specs.Separators.{comma_blank, bars, separator, next, stop, rule_end}
use Rattle.rules.specs.Rules.{always, wide_comment, opening, wins, items_warnings, after_opening, rule}
use Rattle.sheet.specs.PartReadings.{with_next, part_by, part_reading_by}
use Rattle.parts.specs.Parts.{part_in, begins, part_end, beginnings}
use Rattle.sheet.specs.Sheets.{text_of, sheet_by, sheet_reading_by}
use Rattle.text_rules.specs.Texts.{parted, more_rules, no_more, rules, judged_rules, records, warnings}

-- nothing, over the line that opens them
unfoldable pub opened : Unit {0}
unfolding chain_in chain many skip names spelled_so lower letter first_of word name is_digit digit up_to digits clock_after number inside_of one ahead at_end all_small well_begun well_written warns
    odd named spelled within byte all_of blanks blank comma leap last_of_february has_thirty last_of is_day words_of event_of span_meaning repeated tail until_time span_after
    span_shape time_item event_item_after clock with_offset event_with_offset time back_entry front_entry entry next_entry set_all good_entry marked marked_all entries bits holiday_after
    holiday_shape holiday_meaning holiday_item holiday_item_after plus_or_minus day_offset any_days wday_offset offset last_weekday bracketed until_weekday with_entries narrow_after wide_after
    weekday_shape flagged weekday_meaning weekday_item weekday_item_after optional_year back_nth front_nth nth weekday_of day_of day_after date until_date bare_day until end_shape dates_after
    next_year next_month month_from first_with bare_end last_day date_meaning month_meaning last_month month_after month_item_after date_item_after month_day_after month_day_item stepped until_last
    good_range step_of week_shape week_meaning week_item year_after year_shape year_meaning year_item year_item_after octet utf8_tail utf8_2 utf8_3 utf8_4 longer is_inner plain letterOf
    letters closed ill_formed comment comment_apart weeks item_of item_in listed following is_wide goes_on colon_sign colon head_words item_record with_comment modifier has_quote
    at_broken_quote missing_at missing empty more plain_end end always wide_comment opening wins after_opening rule comma_blank bars separator next stop rule_end laid with_next part_by
    part_reading_by part_in begins part_end beginnings text_of sheet_by sheet_reading_by parted more_rules no_more rules judged_rules records warnings item_warnings items_warnings
opened = tt
