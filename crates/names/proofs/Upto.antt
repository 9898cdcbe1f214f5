-- What is so of a value that is read and the place after it.
use Prim.Native.Nat.{ℕ}
use mathlib.Core.List.{List}
use mathlib.Core.Path.{◌≡◌, refl}
use Rattle.names.specs.Read.{Read, got, none, refused, Reader, follow, nothing, pure}

-- where a reading found a value, it and the place after it are so
abbrev pub Upto : {A : Type 0} → (A → ℕ → Type 0) → Read A → Type 0
Upto P (got a j) = P a j
Upto P none = Unit {0}
Upto P (refused k p) = Unit {0}

-- of one reader after another, the second's are
pub upto_then : {A B : Type 0} (P : B → ℕ → Type 0) (s : List ℕ) (i : ℕ) (f : A → Reader B) (r : Read A) → ((a : A) (j : ℕ) → r ≡ got a j → Upto P (f a s j)) → Upto P (follow s i r f nothing)
upto_then P s i f (got a j) h = h a j refl
upto_then P s i f none h = tt
upto_then P s i f (refused k p) h = tt

-- of one reader or another, both are
pub upto_or : {A : Type 0} (P : A → ℕ → Type 0) (s : List ℕ) (i : ℕ) (r : Read A) (n : Reader A) → Upto P r → Upto P (n s i) → Upto P (follow s i r pure n)
upto_or P s i (got a j) n h k = h
upto_or P s i none n h k = k
upto_or P s i (refused e p) n h k = tt

-- a value changed
pub upto_map : {A B : Type 0} (P : B → ℕ → Type 0) (s : List ℕ) (i : ℕ) (f : A → B) (r : Read A) → Upto (λ a j. P (f a) j) r → Upto P (follow s i r (λ a. pure (f a)) nothing)
upto_map P s i f (got a j) h = h
upto_map P s i f none h = tt
upto_map P s i f (refused k p) h = tt

-- less is said of them
pub upto_less : {A : Type 0} (P Q : A → ℕ → Type 0) → ((a : A) (j : ℕ) → P a j → Q a j) → (r : Read A) → Upto P r → Upto Q r
upto_less P Q f (got a j) h = f a j h
upto_less P Q f none h = tt
upto_less P Q f (refused k p) h = tt
