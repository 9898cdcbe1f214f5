-- What holds of a byte from 128 up, of one reader after another, and of one or another, holds of every longer character: the table gone through once.
use Prim.Native.Nat.{ℕ, ◌≤◌}
use native.Mathlib.Omega.{arith}
use Rattle.names.specs.Read.{Reader, ◌>>◌, ◌or◌}
use Rattle.utf8.specs.Utf8.{octet, utf8_tail, utf8_2, utf8_3, utf8_4, longer, two_more, three_more}

pub record Kept (P : Reader (Unit {0}) → Type 0) : Type 0 where
  pub byte : (lo hi : ℕ) → 0x80 ≤ lo → P (octet lo hi)
  pub both : {m n : Reader (Unit {0})} → P m → P n → P (m >> n)
  pub either : {m n : Reader (Unit {0})} → P m → P n → P (m or n)

module _ {P : Reader (Unit {0}) → Type 0} (K : Kept P) where
  tail_has : P utf8_tail
  unfolding utf8_tail
  tail_has = K.byte 0x80 0xBF (omega arith)

  two_has : (lo hi : ℕ) → 0x80 ≤ lo → P (two_more lo hi)
  two_has lo hi h = K.both (K.byte lo hi h) tail_has

  three_has : (lo hi : ℕ) → 0x80 ≤ lo → P (three_more lo hi)
  three_has lo hi h = K.both (K.byte lo hi h) (K.both tail_has tail_has)

  line_2 : P utf8_2
  unfolding utf8_2
  line_2 = two_has 0xC2 0xDF (omega arith)

  line_3 : P utf8_3
  unfolding utf8_3 utf8_tail
  line_3 =
      K.either (K.both (K.byte 0xE0 0xE0 (omega arith)) (two_has 0xA0 0xBF (omega arith)))
      (K.either (K.both (K.byte 0xE1 0xEC (omega arith)) (two_has 0x80 0xBF (omega arith)))
      (K.either (K.both (K.byte 0xED 0xED (omega arith)) (two_has 0x80 0x9F (omega arith)))
      (K.both (K.byte 0xEE 0xEF (omega arith)) (two_has 0x80 0xBF (omega arith)))))

  line_4 : P utf8_4
  unfolding utf8_4 utf8_tail
  line_4 =
      K.either (K.both (K.byte 0xF0 0xF0 (omega arith)) (three_has 0x90 0xBF (omega arith)))
      (K.either (K.both (K.byte 0xF1 0xF3 (omega arith)) (three_has 0x80 0xBF (omega arith)))
      (K.both (K.byte 0xF4 0xF4 (omega arith)) (three_has 0x80 0x8F (omega arith))))

  pub longer_has : P longer
  unfolding longer
  longer_has = K.either line_2 (K.either line_3 line_4)
