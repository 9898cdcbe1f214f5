-- What is so of every value that a reader finds.
use Prim.Native.Nat.{ℕ}
use mathlib.Core.List.{List}
use mathlib.Core.Path.{◌≡◌}
use native.Mathlib.Omega.{arith}
use Rattle.names.specs.Read.{Read, got, none, refused, Reader, follow, nothing, pure, ◌>>=◌, ◌or◌}

-- it is so of the value of a reading, where there is one
abbrev pub Found : {A : Type 0} → (A → Type 0) → Read A → Type 0
Found P (got a j) = P a
Found P none = Unit {0}
Found P (refused k p) = Unit {0}

pub record Finds {A : Type 0} (P : A → Type 0) (m : Reader A) : Type 0 where
  pub found : (s : List ℕ) (i : ℕ) → Found P (m s i)

-- so it is of a value that was read
pub found_is : {A : Type 0} {P : A → Type 0} {m : Reader A} → Finds P m → {s : List ℕ} {i : ℕ} {a : A} {j : ℕ} → m s i ≡ got a j → P a
found_is M {s} {i} e = rw e at (M.found s i)

-- anything may be found
pub any : {A : Type 0} (m : Reader A) → Finds (λ _. Unit {0}) m
any {A} m = record { found = λ s i. go (m s i) }
  where
    go : (r : Read A) → Found (λ _. Unit {0}) r
    go (got a j) = tt
    go none = tt
    go (refused k p) = tt

pub pure_finds : {A : Type 0} {P : A → Type 0} (a : A) → P a → Finds P (pure a)
pure_finds a h = record { found = λ s i. h }

pub nothing_finds : {A : Type 0} {P : A → Type 0} → Finds P nothing
nothing_finds = record { found = λ s i. tt }

-- one reader after another finds what the second finds
pub then_finds : {A B : Type 0} {Q : A → Type 0} {P : B → Type 0} {m : Reader A} {f : A → Reader B} → Finds Q m → ((a : A) → Q a → Finds P (f a)) → Finds P (m >>= f)
then_finds {A} {Q = Q} {P} {m} {f} M F = record { found = λ s i. go s i (m s i) (M.found s i) }
  where
    go : (s : List ℕ) (i : ℕ) (r : Read A) → Found Q r → Found P (follow s i r f nothing)
    go s i (got a j) h = (F a h).found s j
    go s i none h = tt
    go s i (refused k p) h = tt

-- one reader or another
pub or_finds : {A : Type 0} {P : A → Type 0} {m n : Reader A} → Finds P m → Finds P n → Finds P (m or n)
or_finds {A} {P} {m} {n} M N = record { found = λ s i. go s i (m s i) (M.found s i) }
  where
    go : (s : List ℕ) (i : ℕ) (r : Read A) → Found P r → Found P (follow s i r pure n)
    go s i (got a j) h = h
    go s i none h = N.found s i
    go s i (refused k p) h = tt

-- two readings that begin alike, where the one finds a value
pub both : {A B C : Type 0} (s : List ℕ) (i : ℕ) (f : A → Reader B) (g : A → Reader C) (n : Reader C) {b : B} {l : ℕ} {z : Read C} (r : Read A) →
    ((a : A) (j : ℕ) → f a s j ≡ got b l → g a s j ≡ z) → follow s i r f nothing ≡ got b l → follow s i r g n ≡ z
both s i f g n (got a j) h e = h a j e
both s i f g n none h e = absurd (let q : ◌≡◌ {A = ℕ} 0 1 = cc in omega arith)
both s i f g n (refused k p) h e = absurd (let q : ◌≡◌ {A = ℕ} 0 1 = cc in omega arith)
