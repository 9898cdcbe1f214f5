-- Readers: what stands at a place of a text, and the place after it. They are put together in `do` notation.
use Rattle.std.specs.Prelude.{ℕ, suc, List, Bool, true, false, ◌&&◌, ltb, eqb, length, get_or}

infixl 20 ◌>>=◌
infixl 20 ◌>>◌
infixr 15 ◌or◌
-- a value and the place after it; no such shape; or a refusal, its number and its place
pub data Read (A : Type 0) : Type 0 where
  got : A → ℕ → Read A
  none : Read A
  refused : ℕ → ℕ → Read A

-- what a text has at a place
abbrev pub Reader : Type 0 → Type 0
Reader A = List ℕ → ℕ → Read A

-- a reading of the text s at place i: what follows a value, and what is read instead where there is no shape
abbrev pub follow : {A B : Type 0} → List ℕ → ℕ → Read A → (A → Reader B) → Reader B → Read B
follow s i (got a j) f n = f a s j
follow s i none f n = n s i
follow s i (refused k p) f n = refused k p

-- where m finds its shape, f goes on after it, and nothing is undone; where it finds none, n reads
abbrev pub branch : {A B : Type 0} → Reader A → (A → Reader B) → Reader B → Reader B
branch m f n s i = follow s i (m s i) f n

-- nothing is read, and there is no shape
abbrev pub nothing : {A : Type 0} → Reader A
nothing s i = none

-- nothing is read, and the value is a
abbrev pub pure : {A : Type 0} → A → Reader A
pure a s i = got a i

-- nothing is read, and what was read is refused by the number k, at the place p
abbrev pub refuse : {A : Type 0} → ℕ → ℕ → Reader A
refuse k p s i = refused k p

-- nothing is read, and the value is the place
abbrev pub here : Reader ℕ
here s i = got i i

-- one reader after another: `a ← m` and then f
abbrev pub ◌>>=◌ : {A B : Type 0} → Reader A → (A → Reader B) → Reader B
◌>>=◌ m f = branch m f nothing

-- the same, where the value is not used
abbrev pub ◌>>◌ : {A B : Type 0} → Reader A → Reader B → Reader B
◌>>◌ m n = branch m (λ _. n) nothing

-- a reader, its value changed by f
abbrev pub map : {A B : Type 0} → (A → B) → Reader A → Reader B
map f m = branch m (λ a. pure (f a)) nothing

-- the first, or where it finds no shape the second
abbrev pub ◌or◌ : {A : Type 0} → Reader A → Reader A → Reader A
◌or◌ m n = branch m pure n

-- a reader, or where it finds no shape the value a
abbrev pub maybe : {A : Type 0} → Reader A → A → Reader A
maybe m a = branch m pure (pure a)

-- nothing is read: there is a shape where m finds none
abbrev pub unless : {A : Type 0} → Reader A → Reader (Unit {0})
unless m = branch m (λ _. nothing) (pure tt)

-- a reading where a test passes, no shape where it does not
abbrev pub when : {A : Type 0} → Bool → Read A → Read A
when true r = r
when false r = none

-- nothing is read: there is a shape where a test passes
abbrev pub only : Bool → Reader (Unit {0})
only t s i = when t (got tt i)

-- one byte of the text that passes a test
unfoldable pub one : (ℕ → Bool) → Reader ℕ
one p s i = when (ltb i (length s) && p (get_or s i 0)) (got (get_or s i 0) (suc i))

-- the byte at the place, or 0 where the text has ended, passes a test, and stays
unfoldable pub ahead : (ℕ → Bool) → Reader (Unit {0})
ahead p s i = only (p (get_or s i 0)) s i

-- the text's end
unfoldable pub at_end : Reader (Unit {0})
at_end s i = only (eqb i (length s)) s i
