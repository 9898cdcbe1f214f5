-- One rule, and what parts it from the next (docs/RULES.md, 1).
use Rattle.std.specs.Prelude.{ℕ, ◌+◌, List, [], ◌∷◌, eqb, length, Result, Ok, if◌then◌else◌}
use Rattle.names.specs.Read.{Reader, pure, here, map, ◌>>=◌, ◌>>◌, ◌or◌}
use Rattle.names.specs.Chain.{chain}
use Rattle.names.specs.Texts.{bytes, sign, all_of}
use Rattle.records.specs.Warnings.{item_warnings}
use Rattle.records.specs.Words.{Placed}
use Rattle.rules.specs.Comments.{no_comment, comment}
use Rattle.rules.specs.Pieces.{more, end}
use Rattle.records.specs.declared.Comment.{Comment}
use Rattle.names.specs.declared.Manner.{Manner}
use Rattle.names.specs.declared.Cursor.{Cursor}
use Rattle.rules.specs.declared.Opening.{Opening}
use Rattle.names.specs.declared.refusals.Reason.{Reason}
use Rattle.names.specs.declared.refusals.Refusal.{Refusal}
use Rattle.rules.specs.declared.Stage.{Stage}
use Rattle.rules.specs.declared.Stage.TheVariants.{Beginning, Always, Colon}
use Rattle.rules.specs.declared.Tail.{Tail}
use Rattle.records.specs.declared.Head.{Head}

-- what was read at the beginning, and its comment
abbrev pub opening_of : Stage → Comment → Opening
opening_of stage comment = record { stage = stage; comment = comment }

-- `24/7` has no items
unfoldable pub always : Reader Opening
always = do
  all_of (λ b. b) (bytes "24/7")
  pure (opening_of Always no_comment)

-- the comment of a wide part and `:`
unfoldable pub wide_comment : Reader Opening
wide_comment = do
  c ← comment
  sign ":"
  pure (opening_of Colon c)

-- how a rule begins: `24/7`, or the comment of a wide part and `:`, or neither
unfoldable pub opening : Reader Opening
opening = always or wide_comment or pure (opening_of Beginning no_comment)

-- an opening without a comment, as the code answers it
abbrev pub plain_at : Stage → Cursor → Result (Opening × Cursor) (Refusal Reason)
plain_at stage c = Ok (opening_of stage no_comment, c)

-- the modifier's comment wins over the wide part's
unfoldable pub wins : Comment → Comment → Comment
wins c wide = if eqb c.length 0 then wide else c

-- how many warnings the word of a rule's modifier calls for
abbrev pub tail_warnings : Tail → ℕ
tail_warnings t = if t.odd then 1 else 0

-- how many the names of its items do
unfoldable pub items_warnings : List Placed → ℕ
items_warnings [] = 0
items_warnings (a ∷ l) = item_warnings a.0 + items_warnings l

-- a rule's head: its items call for so many warnings, and its modifier's word may for one
abbrev pub head_of : ℕ → ℕ → Tail → Comment → ℕ → ℕ → Head
head_of place separator t wide items warned =
    record { place = place; separator = separator; state = t.state; comment = wins t.comment wide; items = items; warnings = warned + tail_warnings t }

-- a rule's head, and its items
abbrev pub Rule : Type 0
Rule = Head × List Placed

-- the items and the end, as a rule
abbrev pub rule_of : ℕ → ℕ → Comment → List Placed × Tail → Rule
rule_of place separator wide r = (head_of place separator r.1 wide (length r.0) (items_warnings r.0), r.0)

-- the pieces of a rule that begins at a place, after its opening
unfoldable pub after_opening : Manner → ℕ → ℕ → Opening → Reader Rule
after_opening m place separator o = map (rule_of place separator o.comment) (chain (more m) end o.stage)

-- a rule: its place is where it begins
unfoldable pub rule : Manner → ℕ → Reader Rule
rule m separator = do
  p ← here
  o ← opening
  after_opening m p separator o

-- a rule's head alone
abbrev pub counted : Manner → ℕ → Reader Head
counted m separator = map (λ r. r.0) (rule m separator)
