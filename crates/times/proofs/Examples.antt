-- Worked examples of documents 01 and 03, as the definitions compute them.
use Prim.Native.Nat.{ℕ}
use Prim.Native.String.{String}
use mathlib.Core.Bool.{Bool, true, false}
use mathlib.Core.List.{List, [], ◌∷◌, map}
use mathlib.Core.Path.{◌≡◌, refl}
use Rattle.std.specs.Prelude.{Option, Some, None}
use Rattle.names.specs.Tests.{within}
use Rattle.names.specs.Read.{Read, got, none, refused, one, ahead}
use Rattle.names.specs.Chain.{chain_in, chain, many, skip}
use Rattle.names.specs.Texts.{bytes, byte, all_of}
use Rattle.names.specs.Numbers.{is_digit, digit, up_to, digits, clock_after, number}
use Rattle.names.specs.declared.Manner.TheVariants.{First, Second}
use Rattle.names.specs.Names.{names, spelled_so, lower, letter, first_of, word, name}
use Rattle.names.specs.Spellings.{all_small, well_begun, well_written, warns, odd, named}
use Rattle.records.specs.Items.{signed}
use Rattle.records.specs.declared.Item.{Item}
use Rattle.records.specs.declared.Item.TheVariants.{Times}
use Rattle.records.specs.declared.Time.{Time}
use Rattle.records.specs.declared.Time.TheVariants.{Fixed, Dawn, Sunrise, Sunset, Dusk}
use Rattle.times.specs.Times.{clock, event_of, with_offset, event_with_offset, time}
use Rattle.times.specs.Spans.{repeated, tail, until_time, span_after, span_shape, time_item}
use Rattle.times.specs.Meanings.{span_meaning}

-- a span of times
span : Time → Time → Option ℕ → Bool → Item
span start end repeats open_end = Times (record { start = start; end = end; repeats = repeats; open_end = open_end; point = false; odd_start = false; odd_end = false })

-- a time alone
point : Time → Item
point t = Times (record { start = t; end = t; repeats = None; open_end = false; point = true; odd_start = false; odd_end = false })

-- a text, a place in it, and what is read there: 4 before 8, and spans are not reordered
spans : List (String × (ℕ × Read Item))
spans =
    ("10:00+", (0, got (span (Fixed 600) (Fixed 1440) None true) 6))
    ∷ ("sunrise+", (0, got (span (Sunrise (signed false 0)) (Fixed 1440) None true) 8))
    ∷ ("10:00-12:00+", (0, got (span (Fixed 600) (Fixed 720) None true) 12))
    ∷ ("10:00-48:00", (0, got (span (Fixed 600) (Fixed 2880) None false) 11))
    ∷ ("10:00-0:00", (0, got (span (Fixed 600) (Fixed 0) None false) 10))
    ∷ ("24:00-26:00", (0, got (span (Fixed 1440) (Fixed 1560) None false) 11))
    ∷ ("(dawn-1:30)-(dusk+0:15)", (0, got (span (Dawn (signed true 90)) (Dusk (signed false 15)) None false) 23))
    ∷ ("10:00-12:00/23:59", (0, got (span (Fixed 600) (Fixed 720) (Some 1439) false) 17))
    ∷ ("10:00-12:00/00", (0, got (span (Fixed 600) (Fixed 720) (Some 0) false) 14))
    ∷ ("10:00-12:00/1:3", (0, got (span (Fixed 600) (Fixed 720) None false) 11))
    ∷ ("10:00-12:00/90", (0, refused 4 0))
    ∷ ("10:00-12:00/24:00", (0, refused 4 0))
    ∷ ("10:00-48:01", (0, refused 4 0))
    ∷ ("10:00-47:60", (0, refused 4 0))
    ∷ ("(sunset+24:01)-26:00", (0, refused 4 0))
    ∷ ("10:00-(sunset+25:00)", (0, refused 4 0))
    ∷ ("10:60", (0, refused 4 0))
    ∷ ("10:00", (0, refused 8 0))
    ∷ ("Mo 10:00-", (3, refused 8 3))
    ∷ ("Mo", (0, none))
    ∷ []

spans_right : map (λ e. time_item First (bytes e.0) e.1.0) spans ≡ map (λ e. e.1.1) spans
unfolding spans span time_item span_shape span_after until_time tail repeated time event_with_offset with_offset clock event_of span_meaning
    number digits up_to digit is_digit within clock_after skip many chain chain_in byte one ahead named odd warns well_written well_begun all_small name word first_of names all_of letter spelled_so lower
spans_right = refl

-- the second edition: a time alone, a span written out that is none, and what a time alone does not have
points : List (String × Read Item)
points =
    ("10:00", got (point (Fixed 600)) 5)
    ∷ ("24:00", got (point (Fixed 1440)) 5)
    ∷ ("(sunset-0:30)", got (point (Sunset (signed true 30))) 13)
    ∷ ("10:00-10:00", got (span (Fixed 600) (Fixed 600) None false) 11)
    ∷ ("10:00/30", got (point (Fixed 600)) 5)
    ∷ ("10:60", refused 4 0)
    ∷ []

points_right : map (λ e. time_item Second (bytes e.0) 0) points ≡ map (λ e. e.1) points
unfolding points point span time_item span_shape span_after until_time tail repeated time event_with_offset with_offset clock event_of span_meaning
    number digits up_to digit is_digit within clock_after skip many chain chain_in byte one ahead named odd warns well_written well_begun all_small name word first_of names all_of letter spelled_so lower
points_right = refl
