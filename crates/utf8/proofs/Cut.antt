-- Characters depend on nothing before their place; those of a comment on nothing from a `;` outside quotes on: the lemmas put together as the definitions are.
use Prim.Native.Nat.{ℕ, ◌≤◌}
use mathlib.Core.Bool.{Bool, true, false}
use mathlib.Core.List.{List}
use mathlib.Core.Path.{refl}
use native.Mathlib.Omega.{arith}
use Rattle.names.specs.Tests.{within}
use Rattle.names.proofs.Local.{Tail, Ended, Stop, keep, Local, free, then_local, map_local, or_local, one_local, inner_local}
use Rattle.names.proofs.Ended.{one_ended}
use Rattle.names.proofs.Chains.{many_local}
use Rattle.names.proofs.Laws.{within_below}
use Rattle.utf8.specs.Utf8.{octet, utf8_1, longer, utf8_char, utf8_octets}
use Rattle.utf8.specs.Letters.{is_inner, plain, letter, letters}
use Rattle.utf8.proofs.Made.{longer_has}

-- a byte from 128 up is no quote and no `;`, so it is read alike on both sides of quotes
pub octet_local : {u : List ℕ} {a : Bool} (lo hi : ℕ) → 0x80 ≤ lo → Local Stop keep u a a 1 (octet lo hi) (octet lo hi)
unfolding octet
octet_local {a = true} lo hi h = map_local _ _ (λ x. refl) (inner_local (within lo hi) (within_below lo hi 34 (omega arith)))
octet_local {a = false} lo hi h = map_local _ _ (λ x. refl) (one_local (within lo hi) (within_below lo hi 34 (omega arith)) (within_below lo hi 59 (omega arith)))

-- where nothing stands after the text, any byte is
pub octet_ended : {u : List ℕ} {a : Bool} (lo hi : ℕ) → Local Ended keep u a a 1 (octet lo hi) (octet lo hi)
unfolding octet
octet_ended lo hi = map_local _ _ (λ x. refl) (one_ended (within lo hi))

-- ---- longer characters: they take a byte at least

module _ {Q : Tail} {u : List ℕ} {a : Bool} where
  longer_by : ((lo hi : ℕ) → 0x80 ≤ lo → Local Q keep u a a 1 (octet lo hi) (octet lo hi)) → Local Q keep u a a 1 longer longer
  longer_by O = longer_has {P = λ m. Local Q keep u a a 1 m m} (record { byte = O; both = λ M N. then_local M (λ _. free N); either = λ M N. or_local M N })

module _ {u : List ℕ} {a : Bool} where
  pub longer_local : Local Stop keep u a a 1 longer longer
  longer_local = longer_by octet_local

  pub longer_ended : Local Ended keep u a a 1 longer longer
  longer_ended = longer_by (λ lo hi h. octet_ended lo hi)

  -- ---- characters of any bytes, where nothing stands after the text

  pub char_ended : Local Ended keep u a a 1 utf8_char utf8_char
  unfolding utf8_char utf8_1
  char_ended = or_local (octet_ended 0x00 0x7F) longer_ended

  pub octets_ended : Local Ended keep u a a 0 utf8_octets utf8_octets
  unfolding utf8_octets
  octets_ended = map_local _ _ (λ x. refl) (many_local char_ended)

  -- ---- characters of a comment

  pub letter_ended : Local Ended keep u a a 1 letter letter
  unfolding letter plain
  letter_ended = or_local (map_local _ _ (λ x. refl) (one_ended _)) longer_ended

  pub letters_ended : Local Ended keep u a a 0 letters letters
  unfolding letters
  letters_ended = map_local _ _ (λ x. refl) (many_local letter_ended)

-- inside quotes a `;` is a byte like others
pub letter_local : {u : List ℕ} → Local Stop keep u true true 1 letter letter
unfolding letter plain is_inner within
letter_local = or_local (map_local _ _ (λ x. refl) (inner_local _ refl)) longer_local

pub letters_local : {u : List ℕ} → Local Stop keep u true true 0 letters letters
unfolding letters
letters_local = map_local _ _ (λ x. refl) (many_local letter_local)
