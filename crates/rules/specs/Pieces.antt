-- The pieces of a rule, in order: what may stand after what was read last (docs/RULES.md, 1).
use Rattle.std.specs.Prelude.{false, List, ◌⊎◌}
use Rattle.std.proofs.Common.{inl, inr}
use Rattle.names.specs.Read.{Reader, branch, nothing, pure, refuse, here, map, only, ◌>>◌, ◌>>=◌, ◌or◌}
use Rattle.names.specs.Texts.{sign, comma}
use Rattle.names.specs.Refusals.{empty_rule}
use Rattle.names.specs.declared.Manner.{Manner}
use Rattle.items.specs.Musts.{missing, must}
use Rattle.records.specs.Words.{Placed}
use Rattle.items.specs.Kinds.{after_blank, item_in}
use Rattle.items.specs.declared.Kind.{Kind}
use Rattle.rules.specs.Separators.{rule_end}
use Rattle.rules.specs.Comments.{no_comment}
use Rattle.rules.specs.Modifiers.{tail_of, modifier}
use Rattle.rules.specs.Rows.{small, first, listed, following, is_wide}
use Rattle.rules.specs.declared.Tail.{Tail}
use Rattle.rules.specs.declared.Stage.{Stage}
use Rattle.rules.specs.declared.Stage.TheVariants.{Beginning, Always, Colon, After}

-- an item of these kinds, which was read last then
abbrev pub item_from : Manner → List Kind → Reader (Placed × Stage)
item_from m ks = map (λ a. (a.0, After a.1)) (item_in m ks)

-- after a comma the list goes on
unfoldable pub goes_on : Manner → Kind → Reader (Placed × Stage)
goes_on m k = do
  comma
  must (item_from m (listed k))

-- a colon needs a blank and a small part after it
abbrev pub after_colon : Manner → Reader (Placed × Stage)
after_colon m = must (after_blank (item_from m small))

-- a wide part may end in a colon
unfoldable pub colon_sign : Kind → Reader (Unit {0})
colon_sign k = do
  only (is_wide k)
  sign ":"

unfoldable pub colon : Manner → Kind → Reader (Placed × Stage)
colon m k = do
  colon_sign k
  after_colon m

-- what may stand after what was read last: an item, and what was read last then
unfoldable pub more : Manner → Stage → Reader (Placed × Stage)
more m Beginning = item_from m first
more m Always = nothing
more m Colon = after_colon m
more m (After k) = goes_on m k or colon m k or after_blank (item_from m (following k))

-- an empty rule: nothing but blanks up to the text's end or a separator
unfoldable pub empty : Reader Tail
empty = do
  p ← here
  rule_end
  refuse empty_rule p

-- how a rule ends without a modifier: with selectors it is open
unfoldable pub plain_end : Stage → Reader Tail
plain_end Beginning = empty or missing
plain_end Always = pure (tail_of 0 no_comment false)
plain_end Colon = pure (tail_of 0 no_comment false)
plain_end (After k) = pure (tail_of 0 no_comment false)

-- how a rule ends: a modifier has to stand there without selectors, and may stand after them and a blank
unfoldable pub end : Stage → Reader Tail
end Beginning = modifier or plain_end Beginning
end Always = after_blank modifier or plain_end Always
end Colon = after_blank modifier or plain_end Colon
end (After k) = after_blank modifier or plain_end (After k)

-- a piece of a rule: an item, or else the rule's end
unfoldable pub piece : Manner → Stage → Reader ((Placed × Stage) ⊎ Tail)
piece m x = branch (more m x) (λ a. pure (inl a)) (map inr (end x))
