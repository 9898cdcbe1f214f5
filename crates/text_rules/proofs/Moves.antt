-- The move law: the rules of a text that stands after u are its rules, with their places moved.
use Prim.Native.Nat.{ℕ, ◌+◌, ◌≤◌, ◌<◌}
use mathlib.Core.List.{List, [], ◌++◌, append-nil}
use mathlib.Core.Bool.{false}
use mathlib.Core.Path.{◌≡◌}
use native.Mathlib.Omega.{arith}
use lib.ListN.{length}
use Rattle.names.specs.declared.Manner.{Manner}
use Rattle.names.specs.Read.{Reader, branch, nothing, pure, map}
use Rattle.names.specs.Chain.{before, last, chain}
use Rattle.names.specs.Texts.{blanks}
use Rattle.names.proofs.Local.{Ended, stop_end, Ends, moved, keep, LocalIn, Local, in_any, takes as ends-later, narrow, loose, nothing_local, pure_local, bind_local, then_local, then_moved, or_local}
use Rattle.names.proofs.Chains.{step_moves, chain_moves, chain_local}
use Rattle.names.proofs.Fuel.{chain_is}
use Rattle.names.proofs.Cut.{blanks_local}
use Rattle.items.specs.Musts.{must}
use Rattle.rules.specs.Separators.{next}
use Rattle.rules.specs.Rules.{Rule}
use Rattle.std.specs.Prelude.{Option, Some, None}
use Rattle.items.proofs.Cut.{missing_local}
use Rattle.rules.proofs.Cut.{rule_moves, rule_local, next_ended}
use Rattle.text_rules.specs.Texts.{parted, more_rules, no_more, rules}

-- what parts a rule from the next has to stand there
pub must_next : {u : List ℕ} → Local Ended keep u false false 0 (must next) (must next)
must_next = or_local next_ended (narrow missing_local)

-- a rule and what parts it from the next
parted_ended : (m : Manner) {u : List ℕ} (separator : ℕ) → LocalIn m Ended (step_moves rule_moves) u false false 1 (parted m separator) (parted m separator)
unfolding parted
parted_ended m separator =
    let f : Rule → Reader (Rule × Option ℕ) = λ r. branch blanks (λ _. branch (must next) (λ n. pure (r, n)) nothing) nothing in
    then_moved f f (narrow (rule_local m separator)) (λ r. in_any (then_local (narrow blanks_local) (λ _. then_local must_next (λ n. pure_local (r, n)))))

-- a rule of a text
pub more_rules_ended : (m : Manner) {u : List ℕ} (x : (Option ℕ)) → LocalIn m Ended (step_moves rule_moves) u false false 1 (more_rules m x) (more_rules m x)
unfolding more_rules
more_rules_ended m (Some separator) = loose (bind_local (in_any (narrow blanks_local)) (λ _. parted_ended m separator)) (omega arith)
more_rules_ended m None = nothing_local

-- the end of a text's rules
no_more_ended : {u : List ℕ} (x : (Option ℕ)) → Local Ended keep u false false 0 (no_more x) (no_more x)
unfolding no_more
no_more_ended (Some separator) = nothing_local
no_more_ended None = pure_local tt

-- how the rules of a text move
abbrev pub rules_move : ℕ → List Rule × Unit {0} → List Rule × Unit {0}
rules_move = chain_moves rule_moves keep

-- the rules of a text
pub rules_ended : (m : Manner) (u : List ℕ) → LocalIn m Ended rules_move u false false 0 (rules m) (rules m)
unfolding rules
rules_ended m u = chain_local rule_moves {u = u} (more_rules_ended m) (λ x. in_any (no_more_ended x)) (Some 0)

-- the move law
pub rules_move_lem : (m : Manner) (u s : List ℕ) (i : ℕ) → rules m (u ++ s) (length u + i) ≡ moved rules_move (length u) (rules m s i)
rules_move_lem m u s i = rw append-nil at ((rules_ended m u).same s [] i stop_end tt)

-- each rule takes a byte of the text
pub takes : (m : Manner) (x : (Option ℕ)) (s : List ℕ) (i : ℕ) → Ends (λ j. (i < j) × (j ≤ length s)) (more_rules m x s i)
takes m x = ends-later (more_rules_ended m {u = []} x)

-- the rules of a text are a rule and those from there, or the end
pub rules_are : (m : Manner) (x : (Option ℕ)) (s : List ℕ) (i : ℕ) →
    chain (more_rules m) no_more x s i ≡ branch (more_rules m x) (λ c. map (before c.0) (chain (more_rules m) no_more c.1)) (map last (no_more x)) s i
rules_are m = chain_is (more_rules m) no_more (takes m)
