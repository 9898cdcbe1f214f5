-- The bytes of a name that stands in a text are letters.
use Rattle.std.specs.Prelude.{if◌then◌else◌}
use Prim.Native.Nat.{ℕ, ◌+◌, ◌≤◌, ◌<◌}
use mathlib.Core.Bool.{Bool, true, false, ◌&&◌, ◌||◌, and-eq-true_iff}
use mathlib.Core.List.{List, [], ◌∷◌}
use mathlib.Core.Path.{◌≡◌, refl, sym, ap, ◌∙◌}
use native.Mathlib.Omega.{arith}
use native.Mathlib.Decide.{dec_lt}
use borrow.Author.Tests.{le-leb, lt-leb, eqb-true}
use lib.Dec.{eqb}
use lib.ListN.{length, get_or}
use Rattle.names.specs.Tests.{within}
use Rattle.names.specs.Read.{got}
use Rattle.names.specs.Names.{Row, Word, names, spelled_so, lower, letter, word}
use Rattle.names.specs.Table.{compared, stand, first_in}
use Rattle.names.specs.Letters.{capital, small, Letter, Letters}
use Rattle.names.proofs.Laws.{within_true, within_below, within_above, within_range}
use Rattle.names.proofs.Local.{Ends}
use Rattle.names.proofs.Rows.{NameLetter, plain, plain_split, all_good, names_good, good_split}
use Rattle.names.proofs.Search.{alike, first_is}

-- a capital
of_capital : (b : ℕ) → 65 ≤ b → b ≤ 90 → Letter b
of_capital b h l =
    record {
      is = rw (within_true 65 90 b h l);
      told_small = rw (lt-leb 97 b (omega arith), within_below 97 122 b (omega arith));
      told_capital = rw (lt-leb 97 b (omega arith), within_true 65 90 b h l);
    }

-- a small letter
of_small : (b : ℕ) → 97 ≤ b → b ≤ 122 → Letter b
of_small b h l =
    record {
      is = rw (within_above 65 90 b (omega arith) (omega arith), within_true 97 122 b h l);
      told_small = rw (le-leb 97 b h, within_true 97 122 b h l);
      told_capital = rw (le-leb 97 b h, within_above 65 90 b (omega arith) (omega arith));
    }

-- a letter by the test
of_test : (b : ℕ) → (capital b || small b) ≡ true → Letter b
of_test b e = go (capital b) refl e
  where
    go : (t : Bool) → capital b ≡ t → (t || small b) ≡ true → Letter b
    go true q h = let r = within_range 65 90 b q in of_capital b r.0 r.1
    go false q h = let r = within_range 97 122 b h in of_small b r.0 r.1

-- what counts as a letter for a name of this kind is one
counts : (kind b x : ℕ) → letter kind b ≡ x → (capital x || small x) ≡ true → Letter b
unfolding letter lower
counts kind b x e h = go (spelled_so kind) (capital b) refl e
  where
    go : (t u : Bool) → capital b ≡ u → (if t then b else if u then b + 32 else b) ≡ x → Letter b
    go true u q p = of_test b (ap (λ (y : ℕ). capital y || small y) p ∙ h)
    go false true q p = let r = within_range 65 90 b q in of_capital b r.0 r.1
    go false false q p = of_test b (ap (λ (y : ℕ). capital y || small y) p ∙ h)

-- each of these is a letter
unfoldable lettered : List ℕ → Bool
lettered [] = true
lettered (x ∷ xs) = (capital x || small x) && lettered xs

unfoldable all_lettered : List Row → Bool
all_lettered [] = true
all_lettered (r ∷ rs) = lettered r.0 && all_lettered rs

names_lettered : all_lettered names ≡ true
unfolding all_lettered lettered names within
names_lettered = refl

module _ (s : List ℕ) where
  -- letters that stand at a place
  stand_letters : (kind : ℕ) (xs : List ℕ) → plain kind xs ≡ true → lettered xs ≡ true → (i : ℕ) → stand kind xs s i ≡ true → Letters s i (i + length xs)
  unfolding stand lettered
  stand_letters kind [] p l i e k h g = absurd (omega arith)
  stand_letters kind (x ∷ xs) p l i e k h g = go (dec_lt i k) (λ q. stand_letters kind xs plains.1 letters.1 (i + 1) stands.1 k (omega arith) (omega arith))
    where
      plains : NameLetter kind x × (plain kind xs ≡ true)
      plains = plain_split kind x xs p

      letters : ((capital x || small x) ≡ true) × (lettered xs ≡ true)
      letters = (and-eq-true_iff (capital x || small x) (lettered xs)).0 l

      stands : (eqb (compared kind (get_or s i 0)) x ≡ true) × (stand kind xs s (i + 1) ≡ true)
      stands = (and-eq-true_iff (eqb (compared kind (get_or s i 0)) x) (stand kind xs s (i + 1))).0 e

      first : Letter (get_or s i 0)
      first = counts kind (get_or s i 0) x ((alike kind (get_or s i 0) x plains.0).0 (eqb-true _ x stands.0)) letters.0

      go : Dec (i < k) → (i < k → Letter (get_or s k 0)) → Letter (get_or s k 0)
      go (yes q) others = others q
      go (no q) others = let z : i ≡ k = omega arith in rw (sym z) first

  module _ (i : ℕ) where
    -- and those of the name that is found
    first_letters : (rs : List Row) → all_good rs ≡ true → all_lettered rs ≡ true → Ends (Letters s i) (first_in rs s i)
    unfolding first_in all_lettered
    first_letters [] g l = tt
    first_letters (r ∷ rs) g l = go (stand r.1.0 r.0 s i) refl (first_letters rs (good_split r rs g).1 both.1)
      where
        both : (lettered r.0 ≡ true) × (all_lettered rs ≡ true)
        both = (and-eq-true_iff (lettered r.0) (all_lettered rs)).0 l

        go : (t : Bool) → stand r.1.0 r.0 s i ≡ t → Ends (Letters s i) (first_in rs s i) → Ends (Letters s i) (if t then got r.1 (i + length r.0) else first_in rs s i)
        go true e h = stand_letters r.1.0 r.0 (good_split r rs g).0 both.0 i e
        go false e h = h

-- where a name stands, each byte is a letter
pub word_letters : (s : List ℕ) (i : ℕ) {w : Word} {j : ℕ} → word s i ≡ got w j → Letters s i j
unfolding word
word_letters s i e = rw (sym (first_is s i names names_good), e) at (first_letters s i names names_good names_lettered)
