use Rattle.std.proofs.Common.{rules}
use Rattle.names.specs.Names.{name}
use Rattle.names.proofs.Search.{word_small}
use Rattle.names.proofs.Cursor.name.Goals as goal

pub returns-then-number-kind : goal.returns-then-number-kind
unfolding name
returns-then-number-kind c = record { is = search rules; small = word_small _ _ c.in_ok-word.ensures }
