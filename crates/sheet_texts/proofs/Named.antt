-- Which numbers have names.
use Prim.Native.Nat.{ℕ, zero, suc, ◌+◌, ◌≤◌, ◌<◌}
use native.Mathlib.Omega.{arith}
use native.Mathlib.Decide.{ℕ_discrete}
use mathlib.Core.List.{List, [], ◌∷◌}
use mathlib.Core.Bool.{Bool, true, false, ◌&&◌, ◌||◌, not, true≢false}
use mathlib.Core.Path.{◌≡◌, refl, sym, ap, ◌∙◌}
use borrow.Author.Tests.{eq-eqb}
use lib.Dec.{eqb}
use Rattle.names.specs.Tests.{within}
use Rattle.names.specs.Names.{Word, Row, weekday, month, holiday}
use Rattle.names.proofs.Laws.{within_range}
use Rattle.sheet_texts.specs.Names.{written, is_in, same_word}
use Rattle.sheet_texts.proofs.Letters.{same_word_lem}
use Rattle.sheet_texts.proofs.Tests.{both}

-- tests that pass together are the same
pub same_test : (a b : Bool) → (a ≡ true → b ≡ true) → (b ≡ true → a ≡ true) → a ≡ b
same_test true b f g = sym (f refl)
same_test false true f g = g refl
same_test false false f g = refl

-- a table's names of a kind have numbers from lo to hi
unfoldable rows_in : ℕ → ℕ → ℕ → List Row → Bool
rows_in k lo hi [] = true
rows_in k lo hi (r ∷ rs) = (not (eqb r.1.0 k) || within lo hi r.1.1) && rows_in k lo hi rs

-- n numbers from lo on have names
unfoldable all_in : ℕ → ℕ → ℕ → Bool
all_in k lo zero = true
all_in k lo (suc n) = is_in written (k, lo) && all_in k (suc lo) n

row_within : (k lo hi : ℕ) (rs : List Row) (n : ℕ) → rows_in k lo hi rs ≡ true → is_in rs (k, n) ≡ true → within lo hi n ≡ true
unfolding rows_in is_in
row_within k lo hi [] n a h = absurd (true≢false (sym h))
row_within k lo hi (r ∷ rs) n a h = go (same_word r.1 (k, n)) refl h (row_within k lo hi rs n (both (not (eqb r.1.0 k) || within lo hi r.1.1) a).1)
  where
    here : (w : Word) → w ≡ (k, n) → (not (eqb w.0 k) || within lo hi w.1) ≡ true → within lo hi n ≡ true
    here w q g = let p : w.0 ≡ k = ap (λ (x : Word). x.0) q in let o : w.1 ≡ n = ap (λ (x : Word). x.1) q in rw (eq-eqb w.0 k p, o) at g

    go : (t : Bool) → same_word r.1 (k, n) ≡ t → (t || is_in rs (k, n)) ≡ true → (is_in rs (k, n) ≡ true → within lo hi n ≡ true) → within lo hi n ≡ true
    go true e i f = here r.1 (same_word_lem r.1 (k, n) e) (both (not (eqb r.1.0 k) || within lo hi r.1.1) a).0
    go false e i f = f i

all_in_lem : (k lo c n : ℕ) → all_in k lo c ≡ true → lo ≤ n → n < lo + c → is_in written (k, n) ≡ true
unfolding all_in
all_in_lem k lo zero n a h l = absurd (omega arith)
all_in_lem k lo (suc c) n a h l = go (ℕ_discrete lo n) (all_in_lem k (suc lo) c n (both (is_in written (k, lo)) a).1)
  where
    go : Dec (lo ≡ n) → (suc lo ≤ n → n < suc lo + c → is_in written (k, n) ≡ true) → is_in written (k, n) ≡ true
    go (yes e) f = rw e at (both (is_in written (k, lo)) a).0
    go (no e) f = f (omega arith) (omega arith)

named : (k lo c hi : ℕ) → lo + c ≡ suc hi → rows_in k lo hi written ≡ true → all_in k lo c ≡ true → (n : ℕ) → is_in written (k, n) ≡ within lo hi n
named k lo c hi s r a n = same_test (is_in written (k, n)) (within lo hi n) (row_within k lo hi written n r) (λ e. let q = within_range lo hi n e in all_in_lem k lo c n a q.0 (omega (arith, q.1)))

pub month_is : (n : ℕ) → is_in written (month, n) ≡ within 1 12 n
unfolding rows_in all_in is_in written within
month_is = named month 1 12 12 refl refl refl

pub weekday_is : (n : ℕ) → is_in written (weekday, n) ≡ within 1 7 n
unfolding rows_in all_in is_in written within
weekday_is = named weekday 1 7 7 refl refl refl

pub holiday_is : (n : ℕ) → is_in written (holiday, n) ≡ within 1 2 n
unfolding rows_in all_in is_in written within
holiday_is = named holiday 1 2 2 refl refl refl

pub month_range_lem : (n : ℕ) → is_in written (month, n) ≡ true → (1 ≤ n) × (n ≤ 12)
month_range_lem n e = within_range 1 12 n (sym (month_is n) ∙ e)

pub weekday_range : (n : ℕ) → is_in written (weekday, n) ≡ true → (1 ≤ n) × (n ≤ 7)
weekday_range n e = within_range 1 7 n (sym (weekday_is n) ∙ e)

pub holiday_range : (n : ℕ) → is_in written (holiday, n) ≡ true → (1 ≤ n) × (n ≤ 2)
holiday_range n e = within_range 1 2 n (sym (holiday_is n) ∙ e)
