-- Comment: `"`, one or more bytes from 32 up except `"`, `"`. These bytes are well-formed UTF-8, or it is refused (docs/RULES.md, 1).
use Rattle.std.specs.Prelude.{ℕ, ◌-◌, ltb}
use Rattle.names.specs.Read.{Reader, pure, refuse, here, only, one, ◌>>=◌, ◌>>◌, ◌or◌}
use Rattle.names.specs.Chain.{skip}
use Rattle.names.specs.Texts.{sign, blank}
use Rattle.names.specs.Refusals.{ill_formed_comment}
use Rattle.utf8.specs.Letters.{is_inner, letters}
use Rattle.records.specs.declared.Comment.{Comment}

-- a comment's first byte and its length
abbrev pub comment_of : ℕ → ℕ → Comment
comment_of start length = record { start = start; length = length }

-- no comment
abbrev pub no_comment : Comment
no_comment = comment_of 0 0

-- the closing quote after the characters of a comment from start on, one at least
unfoldable pub closed : ℕ → Reader Comment
closed start = do
  end ← here
  sign "\""
  only (ltb start end)
  pure (comment_of start (end - start))

-- the closing quote after other bytes, one at least: the comment at p is ill-formed
unfoldable pub ill_formed : ℕ → Reader Comment
ill_formed p = do
  one is_inner
  skip is_inner
  sign "\""
  refuse ill_formed_comment p

-- a comment, judged when its closing quote is read
unfoldable pub comment : Reader Comment
comment = do
  p ← here
  sign "\""
  start ← here
  letters
  closed start or ill_formed p

-- a blank and a comment
unfoldable pub comment_apart : Reader Comment
comment_apart = do
  blank
  comment
