-- Modifier: `open`, `closed`, `off` or `unknown`, optionally both blank and comment; or a comment alone (open) (docs/RULES.md, 1).
use Rattle.std.specs.Prelude.{ℕ, Bool, false}
use Rattle.names.specs.Read.{Reader, pure, ◌>>=◌, ◌or◌, maybe}
use Rattle.names.specs.Names.{modifier as modifierName}
use Rattle.names.specs.Spellings.{named}
use Rattle.rules.specs.Comments.{no_comment, comment, comment_apart}
use Rattle.records.specs.declared.Comment.{Comment}
use Rattle.rules.specs.declared.Tail.{Tail}

-- how a rule ends: its state, the modifier's comment, and whether the modifier's word calls for a warning
abbrev pub tail_of : ℕ → Comment → Bool → Tail
tail_of state comment odd = record { state = state; comment = comment; odd = odd }

-- after a modifier's word: optionally both blank and comment
unfoldable pub with_comment : ℕ → Bool → Reader Tail
with_comment state odd = do
  c ← maybe comment_apart no_comment
  pure (tail_of state c odd)

-- a modifier
unfoldable pub modifier : Reader Tail
modifier = (do w ← named modifierName; with_comment w.0 w.1) or (do c ← comment; pure (tail_of 0 c false))
