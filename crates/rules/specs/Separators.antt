-- What parts a rule from the next (docs/RULES.md, 1).
use Rattle.std.specs.Prelude.{ℕ, Option, Some, None, ◌||◌, eqb, length, get_or}
use Rattle.names.specs.Read.{Reader, pure, ◌>>◌, ◌or◌, only, ahead, at_end}
use Rattle.names.specs.Texts.{sign}

-- `,` followed by a blank
unfoldable pub comma_blank : Reader (Unit {0})
comma_blank = do
  sign ","
  ahead (eqb 32)

-- `||`
unfoldable pub bars : Reader (Unit {0})
bars = do
  sign "|"
  sign "|"

-- rules are parted by `;` (0), by `,` followed by a blank (1), or by `||` (2)
unfoldable pub separator : Reader (Option ℕ)
separator = (do sign ";"; pure (Some 0)) or (do comma_blank; pure (Some 1)) or (do bars; pure (Some 2))

-- the text's end, which is none, or what parts a rule from the next
unfoldable pub next : Reader (Option ℕ)
next = (do at_end; pure None) or separator

-- the text's end, or `;`
unfoldable pub stop : Reader (Unit {0})
stop s i = only (eqb i (length s) || eqb 59 (get_or s i 0)) s i

-- the text's end or a separator
unfoldable pub rule_end : Reader (Unit {0})
rule_end = stop or comma_blank or bars
