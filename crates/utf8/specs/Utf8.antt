-- Well-formed UTF-8: the table of RFC 3629, section 4, line by line, with its names (docs/RULES.md, 6).
use Rattle.std.specs.Prelude.{ℕ}
use Rattle.names.specs.Tests.{within}
use Rattle.names.specs.Read.{Reader, ◌>>◌, ◌or◌, map, one}
use Rattle.names.specs.Chain.{many}

-- a byte from lo to hi
unfoldable pub octet : ℕ → ℕ → Reader (Unit {0})
octet lo hi = map (λ _. tt) (one (within lo hi))

-- UTF8-tail = %x80-BF
unfoldable pub utf8_tail : Reader (Unit {0})
utf8_tail = octet 0x80 0xBF

-- UTF8-1 = %x00-7F
unfoldable pub utf8_1 : Reader (Unit {0})
utf8_1 = octet 0x00 0x7F

-- UTF8-2 = %xC2-DF UTF8-tail
unfoldable pub utf8_2 : Reader (Unit {0})
utf8_2 = do octet 0xC2 0xDF; utf8_tail

-- UTF8-3 = %xE0 %xA0-BF UTF8-tail / %xE1-EC 2( UTF8-tail ) / %xED %x80-9F UTF8-tail / %xEE-EF 2( UTF8-tail )
unfoldable pub utf8_3 : Reader (Unit {0})
utf8_3 =
    (do octet 0xE0 0xE0; octet 0xA0 0xBF; utf8_tail)
    or (do octet 0xE1 0xEC; utf8_tail; utf8_tail)
    or (do octet 0xED 0xED; octet 0x80 0x9F; utf8_tail)
    or (do octet 0xEE 0xEF; utf8_tail; utf8_tail)

-- UTF8-4 = %xF0 %x90-BF 2( UTF8-tail ) / %xF1-F3 3( UTF8-tail ) / %xF4 %x80-8F 2( UTF8-tail )
unfoldable pub utf8_4 : Reader (Unit {0})
utf8_4 =
    (do octet 0xF0 0xF0; octet 0x90 0xBF; utf8_tail; utf8_tail)
    or (do octet 0xF1 0xF3; utf8_tail; utf8_tail; utf8_tail)
    or (do octet 0xF4 0xF4; octet 0x80 0x8F; utf8_tail; utf8_tail)

-- those of more than one byte
unfoldable pub longer : Reader (Unit {0})
longer = utf8_2 or utf8_3 or utf8_4

-- UTF8-char = UTF8-1 / UTF8-2 / UTF8-3 / UTF8-4
unfoldable pub utf8_char : Reader (Unit {0})
utf8_char = utf8_1 or longer

-- UTF8-octets = *( UTF8-char )
unfoldable pub utf8_octets : Reader (Unit {0})
utf8_octets = map (λ _. tt) (many utf8_char)

-- what follows the first byte of three, and of four: a byte from lo to hi, and tails
abbrev pub two_more : ℕ → ℕ → Reader (Unit {0})
two_more lo hi = do octet lo hi; utf8_tail

abbrev pub three_more : ℕ → ℕ → Reader (Unit {0})
three_more lo hi = do octet lo hi; utf8_tail; utf8_tail
