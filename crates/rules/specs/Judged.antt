-- What reading a comment comes to: its bytes stand between quotes, and then they are judged (docs/RULES.md, 6).
use Rattle.std.specs.Prelude.{ℕ, ◌+◌, ◌-◌, List, ◌≡◌}
use Rattle.std.proofs.Math.Seq.{slice}
use Rattle.names.specs.Read.{Reader, got, none, refused, pure, here, one, ◌>>=◌, ◌>>◌}
use Rattle.names.specs.Chain.{skip}
use Rattle.names.specs.Texts.{sign}
use Rattle.names.specs.Refusals.{ill_formed_comment}
use Rattle.utf8.specs.CodePoints.{WellFormed}
use Rattle.utf8.specs.Letters.{is_inner}
use Rattle.rules.specs.Comments.{comment_of, comment}
use Rattle.records.specs.declared.Comment.{Comment}

-- `"`, one or more bytes from 32 up except `"`, `"`, whatever bytes they are
unfoldable pub quoted : Reader Comment
quoted = do
  sign "\""
  start ← here
  one is_inner
  skip is_inner
  end ← here
  sign "\""
  pure (comment_of start (end - start))

-- a comment's bytes
abbrev pub bytes_of : Comment → List ℕ → List ℕ
bytes_of c s = slice c.start (c.start + c.length) s

-- where none stands so, there is no comment; one that does is read if its bytes are well-formed, and else refused at its first quote
abbrev pub CommentsAreJudged : Type 0
CommentsAreJudged =
    (s : List ℕ) (i : ℕ) → (quoted s i ≡ none → comment s i ≡ none)
    × ((c : Comment) (j : ℕ) → quoted s i ≡ got c j → (WellFormed (bytes_of c s) → comment s i ≡ got c j) × ((WellFormed (bytes_of c s) → ⊥) → comment s i ≡ refused ill_formed_comment i))
