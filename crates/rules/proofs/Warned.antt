-- A rule has at most 6 warnings for each of its records: its items have, and its head, which is a record too, adds its modifier's one.
use Rattle.std.specs.Prelude.{if◌then◌else◌}
use Prim.Native.Nat.{ℕ, suc, ◌*◌, ◌≤◌}
use mathlib.Core.Bool.{Bool, true, false}
use mathlib.Core.List.{List, [], ◌∷◌}
use native.Mathlib.Omega.{arith}
use lib.ListN.{length}
use Rattle.records.proofs.Warned.{item_warnings_few}
use Rattle.records.specs.Words.{Placed}
use Rattle.rules.specs.Rules.{tail_warnings, items_warnings, rule_of}
use Rattle.records.specs.declared.Comment.{Comment}
use Rattle.rules.specs.declared.Tail.{Tail}

-- the items
items_warnings_few : (l : List Placed) → items_warnings l ≤ length l * 6
unfolding items_warnings
items_warnings_few [] = omega arith
items_warnings_few (a ∷ l) = omega (arith, item_warnings_few a.0, items_warnings_few l)

-- the modifier's word
pub tail_warnings_few : (t : Tail) → tail_warnings t ≤ 1
tail_warnings_few t = go t.odd
  where
    go : (b : Bool) → (if b then 1 else 0) ≤ 1
    go true = omega arith
    go false = omega arith

pub rule_warnings_few : (place separator : ℕ) (wide : Comment) (r : List Placed × Tail) → (rule_of place separator wide r).0.warnings ≤ suc (length r.0) * 6
rule_warnings_few place separator wide r = omega (arith, items_warnings_few r.0, tail_warnings_few r.1)
