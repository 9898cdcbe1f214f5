-- What holds of each name of the table.
use Rattle.std.specs.Prelude.{if◌then◌else◌}
use Prim.Native.Nat.{ℕ, ◌≤◌, ◌<◌}
use mathlib.Core.Bool.{Bool, true, false, ◌&&◌, true≢false, and-eq-true_iff}
use mathlib.Core.List.{List, [], ◌∷◌}
use mathlib.Core.Path.{◌≡◌, refl, sym, ◌∙◌}
use native.Mathlib.Omega.{arith}
use borrow.Author.Tests.{leb-true, ltb-true}
use lib.Dec.{leb, ltb}
use lib.ListN.{length}
use Rattle.names.specs.Tests.{within}
use Rattle.names.specs.Names.{Row, names, spelled_so}
use Rattle.names.proofs.Laws.{within_range}

-- a letter of a name of this kind: none below the letters, and a small letter where the name takes any case
pub record NameLetter (kind x : ℕ) : Type 0 where
  pub some : 65 ≤ x
  pub small : spelled_so kind ≡ false → (97 ≤ x) × (x ≤ 122)

unfoldable pub is_letter_lem : ℕ → ℕ → Bool
is_letter_lem kind x = if spelled_so kind then leb 65 x else within 97 122 x

letter_is : (kind x : ℕ) → is_letter_lem kind x ≡ true → NameLetter kind x
unfolding is_letter_lem
letter_is kind x e = go (spelled_so kind) refl e
  where
    go : (t : Bool) → spelled_so kind ≡ t → (if t then leb 65 x else within 97 122 x) ≡ true → NameLetter kind x
    go true q h = record { some = leb-true _ _ h; small = λ n. absurd (true≢false (sym q ∙ n)) }
    go false q h = let r = within_range 97 122 x h in record { some = omega arith; small = λ n. r }

-- each letter is one of a name of this kind
unfoldable pub plain : ℕ → List ℕ → Bool
plain kind [] = true
plain kind (x ∷ xs) = is_letter_lem kind x && plain kind xs

pub plain_split : (kind x : ℕ) (xs : List ℕ) → plain kind (x ∷ xs) ≡ true → NameLetter kind x × (plain kind xs ≡ true)
unfolding plain
plain_split kind x xs e = let h = (and-eq-true_iff (is_letter_lem kind x) (plain kind xs)).0 e in (letter_is kind x h.0, h.1)

-- so is each letter of these names
unfoldable pub all_good : List Row → Bool
all_good [] = true
all_good (r ∷ rs) = plain r.1.0 r.0 && all_good rs

pub names_good : all_good names ≡ true
unfolding all_good plain is_letter_lem names within spelled_so
names_good = refl

-- the first and the others
pub good_split : (r : Row) (rs : List Row) → all_good (r ∷ rs) ≡ true → (plain r.1.0 r.0 ≡ true) × (all_good rs ≡ true)
unfolding all_good
good_split r rs e = (and-eq-true_iff (plain r.1.0 r.0) (all_good rs)).0 e

-- each of these names has more than k letters
unfoldable pub longer : ℕ → List Row → Bool
longer k [] = true
longer k (r ∷ rs) = ltb k (length r.0) && longer k rs

pub longer_split : (k : ℕ) (r : Row) (rs : List Row) → longer k (r ∷ rs) ≡ true → (k < length r.0) × (longer k rs ≡ true)
unfolding longer
longer_split k r rs e = let h = (and-eq-true_iff (ltb k (length r.0)) (longer k rs)).0 e in (ltb-true k (length r.0) h.0, h.1)
