-- Repetition: one combinator for everything that is read again and again.
use Rattle.std.specs.Prelude.{ℕ, zero, suc, List, [], ◌∷◌, Bool, length}
use Rattle.names.specs.Read.{Reader, branch, nothing, pure, map, one}

-- an item in front of what follows it
abbrev pub before : {A B : Type 0} → A → List A × B → List A × B
before a l = (a ∷ l.0, l.1)

-- no item, and the end
abbrev pub last : {A B : Type 0} → B → List A × B
last b = ([], b)

-- from the state x: while `more` finds an item and the state to go on from, it is taken, and nothing is undone; where it finds none,
-- `end` ends the chain. With the fuel n, fewer than n items
unfoldable pub chain_in : {S A B : Type 0} → ℕ → (S → Reader (A × S)) → (S → Reader B) → S → Reader (List A × B)
chain_in zero more end x = nothing
chain_in (suc n) more end x = branch (more x) (λ a. map (before a.0) (chain_in n more end a.1)) (map last (end x))

-- the same with fuel enough: each item takes a byte of the text at least
unfoldable pub chain : {S A B : Type 0} → (S → Reader (A × S)) → (S → Reader B) → S → Reader (List A × B)
chain more end x s = chain_in (suc (length s)) more end x s

-- one item after another, as many as there are
unfoldable pub many : {A : Type 0} → Reader A → Reader (List A)
many m = map (λ l. l.0) (chain {B = Unit {0}} (λ x. map (λ a. (a, x)) m) pure tt)

-- all bytes from here on that pass a test
unfoldable pub skip : (ℕ → Bool) → Reader (Unit {0})
skip p = map (λ _. tt) (many (one p))
