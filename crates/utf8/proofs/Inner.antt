-- Where the characters of a comment end: at a place from here on, in the text, and all bytes up to it are bytes of a comment.
use Prim.Native.Nat.{ℕ, zero, suc, ◌+◌, ◌≤◌, ◌<◌}
use mathlib.Core.Bool.{Bool, true, false, and-eq-true_iff}
use mathlib.Core.List.{List}
use mathlib.Core.Path.{◌≡◌, refl, sym, ap, ◌∙◌}
use native.Mathlib.Omega.{arith}
use native.Mathlib.Numerals.{add-one}
use native.Mathlib.Decide.{dec_lt}
use borrow.Author.Tests.{le-leb, ne_eqb}
use lib.ListN.{length, get_or}
use Rattle.names.specs.Tests.{within}
use Rattle.names.specs.Read.{Read, got, none, refused, Reader, follow, nothing, pure, ◌>>◌, ◌or◌}
use Rattle.names.specs.Chain.{skip}
use Rattle.names.proofs.Local.{Past, past, past_one}
use Rattle.names.proofs.Laws.{one_got, one_other, one_past, within_range}
use Rattle.names.proofs.Skips.{skip_more}
use Rattle.utf8.specs.Utf8.{octet}
use Rattle.utf8.specs.Letters.{is_inner, is_plain, plain, letter, letters}
use Rattle.utf8.proofs.Laws.{octet_got, octet_not, octet_past}
use Rattle.utf8.proofs.Made.{longer_has}
use Rattle.utf8.proofs.Cut.{letter_ended, letters_ended}
use Rattle.utf8.proofs.Firsts.{letter_past}
use Rattle.utf8.proofs.Repeats.{letters_more, letters_stop}

-- a byte from 128 up is a byte of a comment
pub inner_high : (b : ℕ) → 0x80 ≤ b → is_inner b ≡ true
unfolding is_inner
inner_high b h = rw (le-leb 32 b (omega arith), ne_eqb 34 b (λ e. omega arith))

-- a reading at i passed bytes of a comment alone, and is no refusal
abbrev Passed : List ℕ → ℕ → Read (Unit {0}) → Type 0
Passed s i (got u j) = skip is_inner s i ≡ skip is_inner s j
Passed s i none = Unit {0}
Passed s i (refused k p) = ⊥

record Passes (m : Reader (Unit {0})) : Type 0 where
  passes : (s : List ℕ) (i : ℕ) → Passed s i (m s i)

passed_on : (s : List ℕ) (i j : ℕ) (r : Read (Unit {0})) → skip is_inner s i ≡ skip is_inner s j → Passed s j r → Passed s i r
passed_on s i j (got u k) e p = e ∙ p
passed_on s i j none e p = tt
passed_on s i j (refused k q) e p = p

-- one byte
step : (s : List ℕ) (i : ℕ) → i < length s → is_inner (get_or s i 0) ≡ true → skip is_inner s i ≡ skip is_inner s (i + 1)
step s i h e = skip_more is_inner s i h e ∙ ap (skip is_inner s) (sym (add-one i))

octet_passes : (lo hi : ℕ) → 0x80 ≤ lo → Passes (octet lo hi)
octet_passes lo hi l = record { passes = λ s i. go s i (dec_lt i (length s)) (within lo hi (get_or s i 0)) refl }
  where
    go : (s : List ℕ) (i : ℕ) → Dec (i < length s) → (t : Bool) → within lo hi (get_or s i 0) ≡ t → Passed s i (octet lo hi s i)
    go s i (no h) t w = rw (octet_past lo hi s i (omega arith)) tt
    go s i (yes h) false w = rw (octet_not lo hi s i w) tt
    go s i (yes h) true w = rw (octet_got lo hi s i h w) (step s i h (inner_high (get_or s i 0) (omega (arith, within_range lo hi (get_or s i 0) w))))

plain_passes : Passes plain
unfolding plain
plain_passes = record { passes = λ s i. go s i (dec_lt i (length s)) (is_plain (get_or s i 0)) refl }
  where
    go : (s : List ℕ) (i : ℕ) → Dec (i < length s) → (t : Bool) → is_plain (get_or s i 0) ≡ t → Passed s i (plain s i)
    go s i (no h) t w = rw (one_past is_plain s i (omega arith)) tt
    go s i (yes h) false w = rw (one_other is_plain s i h w) tt
    go s i (yes h) true w = rw (one_got is_plain s i h w) (step s i h ((and-eq-true_iff (within 0x00 0x7F (get_or s i 0)) (is_inner (get_or s i 0))).0 w).1)

module _ {m n : Reader (Unit {0})} (M : Passes m) (N : Passes n) where
  then_passes : Passes (m >> n)
  then_passes = record { passes = λ s i. go s i (m s i) (M.passes s i) }
    where
      go : (s : List ℕ) (i : ℕ) (r : Read (Unit {0})) → Passed s i r → Passed s i (follow s i r (λ _. n) nothing)
      go s i (got u j) p = passed_on s i j (n s j) p (N.passes s j)
      go s i none p = tt
      go s i (refused k q) p = p

  or_passes : Passes (m or n)
  or_passes = record { passes = λ s i. go s i (m s i) (M.passes s i) }
    where
      go : (s : List ℕ) (i : ℕ) (r : Read (Unit {0})) → Passed s i r → Passed s i (follow s i r pure n)
      go s i (got u j) p = p
      go s i none p = N.passes s i
      go s i (refused k q) p = p

letter_passes : Passes letter
unfolding letter
letter_passes = or_passes plain_passes (longer_has {P = Passes} (record { byte = octet_passes; both = λ M N. then_passes M N; either = λ M N. or_passes M N }))

-- ---- as many as there are

-- they are always read, if only none, and pass bytes of a comment alone
record Read_on (s : List ℕ) (i : ℕ) : Type 0 where
  end : ℕ
  is : letters s i ≡ got tt end
  over : skip is_inner s i ≡ skip is_inner s end

letters_within : (s : List ℕ) (n i : ℕ) → length s ≤ n + i → Read_on s i
letters_within s zero i h = record { end = i; is = letters_stop s i (letter_past s i (omega arith)); over = refl }
letters_within s (suc n) i h = go (letter s i) refl (letter_passes.passes s i) (λ j l. letters_within s n j l)
  where
    go : (r : Read (Unit {0})) → letter s i ≡ r → Passed s i r → ((j : ℕ) → length s ≤ n + j → Read_on s j) → Read_on s i
    go (got u j) e p f =
        let w = f j (omega (arith, past_one (letter_ended {a = true}) e)) in
        record { end = w.end; is = letters_more s i e ∙ w.is; over = p ∙ w.over }
    go none e p f = record { end = i; is = letters_stop s i e; over = refl }
    go (refused k q) e p f = absurd p

letters_read : (s : List ℕ) (i : ℕ) → Read_on s i
letters_read s i = letters_within s (length s) i (omega arith)

pub letters_sure : (s : List ℕ) (i : ℕ) → (j : ℕ) × (letters s i ≡ got tt j)
letters_sure s i = let w = letters_read s i in (w.end, w.is)

module _ (s : List ℕ) (i j : ℕ) (e : letters s i ≡ got tt j) where
  -- they move forward only, and past the text's end only where they begin there
  pub letters_past : Past 0 s i j
  letters_past = past (letters_ended {a = true}) e

  -- bytes of a comment go on from where they end
  pub letters_inner : {k : ℕ} → skip is_inner s i ≡ got tt k → skip is_inner s j ≡ got tt k
  letters_inner f = let w = letters_read s i in let q : w.end ≡ j = cc in rw q at (sym w.over ∙ f)
