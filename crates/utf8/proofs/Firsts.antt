-- A character of a comment, by its first byte.
use Prim.Native.Nat.{ℕ, ◌+◌, ◌≤◌, ◌<◌}
use mathlib.Core.Bool.{true, false, true≢false}
use mathlib.Core.List.{List}
use mathlib.Core.Path.{◌≡◌, sym, ◌∙◌}
use native.Mathlib.Omega.{arith}
use native.Mathlib.Decide.{dec_lt}
use borrow.Author.Tests.{le-leb, lt-leb, ne_eqb}
use lib.ListN.{length, get_or, get_or-eq_default}
use Rattle.names.specs.Tests.{within}
use Rattle.names.specs.Read.{got, none}
use Rattle.names.proofs.Laws.{one_got, one_other, one_past, within_true, within_above, within_range}
use Rattle.utf8.specs.Utf8.{utf8_1, longer, utf8_char}
use Rattle.utf8.specs.Letters.{is_inner, is_plain, plain, letter}
use Rattle.utf8.proofs.Laws.{octet_past, octet_is, octet_not}
use Rattle.utf8.proofs.Rows.{longer_from}

-- a byte below 128 is one where it is a byte of a comment
pub plain_low : (b : ℕ) → b < 0x80 → is_plain b ≡ is_inner b
plain_low b h = rw (within_true 0x00 0x7F b (omega arith) (omega arith))

pub plain_high : (b : ℕ) → 0x80 ≤ b → is_plain b ≡ false
plain_high b h = rw (within_above 0x00 0x7F b (omega arith) (omega arith))

-- from 32 to 127 all but the quote are, and no others
pub plain_is : (b : ℕ) → within 32 0x7F b ≡ true → (b ≡ 34 → ⊥) → is_plain b ≡ true
unfolding is_inner
plain_is b e n = let r = within_range 32 0x7F b e in plain_low b (omega arith) ∙ rw (le-leb 32 b r.0, ne_eqb 34 b (λ q. n (sym q)))

pub plain_other : (b : ℕ) → within 32 0x7F b ≡ false → is_plain b ≡ false
unfolding is_inner
plain_other b e = go (dec_lt b 32) (dec_lt b 0x80)
  where
    go : Dec (b < 32) → Dec (b < 0x80) → is_plain b ≡ false
    go (yes l) x = plain_low b (omega arith) ∙ rw (lt-leb 32 b l)
    go (no l) (yes h) = absurd (true≢false (sym (within_true 32 0x7F b (omega arith) (omega arith)) ∙ e))
    go (no l) (no h) = plain_high b (omega arith)

-- where a byte other than 0 stands, the text goes on
there : (s : List ℕ) (i : ℕ) → 0 < get_or s i 0 → i < length s
there s i h = go (dec_lt i (length s))
  where
    go : Dec (i < length s) → i < length s
    go (yes l) = l
    go (no l) = let e : get_or s i 0 ≡ 0 = get_or-eq_default s 0 (omega arith) in absurd (omega arith)

module _ (s : List ℕ) (i : ℕ) (h : i < length s) where
  -- one of one byte
  pub letter_plain : is_plain (get_or s i 0) ≡ true → letter s i ≡ got tt (i + 1)
  unfolding letter plain
  letter_plain e = rw (one_got is_plain s i h e)

  -- a longer one, or none
  pub letter_longer : is_plain (get_or s i 0) ≡ false → letter s i ≡ longer s i
  unfolding letter plain
  letter_longer e = rw (one_other is_plain s i h e)

-- a quote is none
pub letter_quote : (s : List ℕ) (i : ℕ) → i < length s → get_or s i 0 ≡ 34 → letter s i ≡ none
unfolding is_inner within
letter_quote s i h e = letter_longer s i h (rw e) ∙ longer_from.below s i (omega arith)

-- past the text's end, none
longer_past : (s : List ℕ) (i : ℕ) → length s ≤ i → longer s i ≡ none
longer_past s i h = longer_from.below s i (rw (get_or-eq_default s 0 h) (omega arith))

pub letter_past : (s : List ℕ) (i : ℕ) → length s ≤ i → letter s i ≡ none
unfolding letter plain
letter_past s i h = rw (one_past is_plain s i h, longer_past s i h)

-- ---- by the byte that stands here, which is 0 past the text's end

module _ (s : List ℕ) (i : ℕ) where
  -- a quote is none
  pub quote_none : get_or s i 0 ≡ 34 → letter s i ≡ none
  quote_none e = letter_quote s i (there s i (omega arith)) e

  -- from 32 to 127 any other is one
  pub short_there : within 32 0x7F (get_or s i 0) ≡ true → i < length s
  short_there w = let r = within_range 32 0x7F (get_or s i 0) w in there s i (omega arith)

  pub short_got : within 32 0x7F (get_or s i 0) ≡ true → (get_or s i 0 ≡ 34 → ⊥) → letter s i ≡ got tt (i + 1)
  short_got w n = letter_plain s i (short_there w) (plain_is (get_or s i 0) w n)

  -- any other begins a longer one, or none
  pub long_is : within 32 0x7F (get_or s i 0) ≡ false → letter s i ≡ longer s i
  long_is w = go (dec_lt i (length s))
    where
      go : Dec (i < length s) → letter s i ≡ longer s i
      go (yes h) = letter_longer s i h (plain_other (get_or s i 0) w)
      go (no h) = let e : length s ≤ i = omega arith in letter_past s i e ∙ sym (longer_past s i e)

-- ---- any character

module _ (s : List ℕ) (i : ℕ) where
  pub char_plain : i < length s → get_or s i 0 < 0x80 → utf8_char s i ≡ got tt (i + 1)
  unfolding utf8_char utf8_1
  char_plain h b = rw (octet_is 0x00 0x7F s i h (omega arith) (omega arith))

  pub char_longer : 0x80 ≤ get_or s i 0 → utf8_char s i ≡ longer s i
  unfolding utf8_char utf8_1
  char_longer b = rw (octet_not 0x00 0x7F s i (within_above 0x00 0x7F (get_or s i 0) (omega arith) (omega arith)))

  pub char_past : length s ≤ i → utf8_char s i ≡ none
  unfolding utf8_char utf8_1
  char_past h = rw (octet_past 0x00 0x7F s i h, longer_past s i h)
