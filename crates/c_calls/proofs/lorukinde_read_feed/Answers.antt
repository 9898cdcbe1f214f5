use Prim.Native.Nat.{ℕ}
use mathlib.Core.List.{List}
use mathlib.Core.Path.{ap}
use Rattle.feed.specs.declared.FeedAnswer.{FeedAnswer}
use Rattle.c_calls.specs.Calls.{feed_numbers, feed_call}
use Rattle.c_calls.proofs.lorukinde_read_feed.Goals as goal

pub returns : goal.returns
unfolding feed_call
returns c = ap (λ (r : FeedAnswer × (List ℕ × List ℕ)). (feed_numbers r.0, r.1)) c.read_feed_bytes-a.ensures
