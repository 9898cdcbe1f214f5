-- The rules of a text are read or refused: there is never none of them.
use Prim.Native.Nat.{ℕ}
use mathlib.Core.List.{List}
use mathlib.Core.Path.{◌≡◌}
use lib.Dec.{eqb}
use Rattle.names.specs.declared.Manner.{Manner}
use Rattle.names.specs.Read.{none, Reader, pure, map}
use Rattle.names.specs.Texts.{blanks}
use Rattle.names.proofs.Skips.{skip_sure}
use Rattle.items.specs.Musts.{must}
use Rattle.rules.specs.Separators.{next}
use Rattle.rules.specs.Rules.{Rule, rule}
use Rattle.std.specs.Prelude.{Option, Some, None}
use Rattle.items.proofs.Sure.{Sure, sure, then_sure, must_sure, chain_sure}
use Rattle.rules.proofs.Chained.{rule_sure}
use Rattle.text_rules.specs.Texts.{after_rule, parted, more_rules, no_more, rules}
use Rattle.text_rules.proofs.Moves.{takes}

-- blanks are
blanks_sure : (s : List ℕ) (i : ℕ) → Sure (blanks s i)
unfolding blanks
blanks_sure s i = rw (skip_sure (eqb 32) s i).1 tt

-- a rule of a text is
more_sure : (m : Manner) (separator : ℕ) (s : List ℕ) (i : ℕ) → Sure (more_rules m (Some separator) s i)
unfolding more_rules parted
more_sure m separator s i =
    let after : (r : Rule) → Reader (Rule × Option ℕ) = λ r. after_rule r in
    then_sure s i (λ _. parted m separator) (blanks s i) (blanks_sure s i) (λ _ j.
    then_sure s j after (rule m separator s j) (rule_sure m separator s j) (λ r k.
    then_sure s k (λ _. map (λ n. (r, n)) (must next)) (blanks s k) (blanks_sure s k) (λ _ l. then_sure s l (λ n. pure (r, n)) (must next s l) (must_sure s l next) (λ _ _. tt))))

-- where there is no rule more, the text has ended
ends : (m : Manner) (s : List ℕ) (x : (Option ℕ)) (i : ℕ) → more_rules m x s i ≡ none → Sure (no_more x s i)
unfolding no_more
ends m s (Some separator) i e = absurd (sure (more_sure m separator s i) e)
ends m s None i e = tt

pub rules_sure : (m : Manner) (s : List ℕ) (p : ℕ) → rules m s p ≡ none → ⊥
unfolding rules
rules_sure m s p = sure (chain_sure (more_rules m) no_more s (λ x. takes m x s) (ends m s) (Some 0) p)
