-- Span: time`+`; or time`-`end and then nothing, `+`, `/MM` or `/H:MM`; a time alone is a shape too (docs/RULES.md, 2).
use Rattle.std.specs.Prelude.{ℕ, Bool, true, false, Option, Some, None}
use Rattle.names.specs.Read.{Reader, pure, ◌>>=◌, ◌>>◌, ◌or◌}
use Rattle.names.specs.Texts.{sign}
use Rattle.names.specs.Numbers.{minutes}
use Rattle.names.specs.Names.{event}
use Rattle.names.specs.Spellings.{odd_from}
use Rattle.names.specs.declared.Manner.{Manner}
use Rattle.records.specs.Items.{item, meant}
use Rattle.records.specs.declared.Item.{Item}
use Rattle.times.specs.Times.{minutes_of, clock, Spelt, time, event_alone}
use Rattle.times.specs.Meanings.{span_meaning}
use Rattle.times.specs.Shapes.{RawSpan, Alone, Open, Until}

-- after `/`: `H:MM` or `MM`
unfoldable pub repeated : Reader ℕ
repeated = clock or (do m ← minutes; pure (minutes_of 0 m))

-- what stands after a span's end: `+`, `/MM` or `/H:MM`, or nothing; so the repeat, and whether the end is open
unfoldable pub tail : Reader (Option ℕ × Bool)
tail = (do sign "+"; pure (None, true)) or (do sign "/"; n ← repeated; pure (Some n, false)) or pure (None, false)

-- after a start: `-` and an end, and what stands after it
unfoldable pub until_time : Spelt → Reader RawSpan
until_time start = do
  sign "-"
  end ← time
  t ← tail
  pure (Until start end t)

-- the shape after its start
unfoldable pub span_after : Spelt → Reader RawSpan
span_after start = (do sign "+"; pure (Open start)) or until_time start or pure (Alone start)

-- the shape of a span
unfoldable pub span_shape : Reader RawSpan
span_shape = do
  start ← time
  span_after start

-- an item of a time list
unfoldable pub time_item : Manner → Reader Item
time_item m = item span_shape (span_meaning m)

-- the item that begins at p with an event e, after the event
unfoldable pub event_item_after : Manner → ℕ → ℕ → Reader Item
event_item_after m p e = meant p (do odd ← odd_from event p; span_after (event_alone (e, odd))) (span_meaning m)
