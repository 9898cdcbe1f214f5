-- The examples of RFC 3629, section 7, and comments of the rules, as the definitions compute them.
use Prim.Native.Nat.{ℕ}
use mathlib.Core.List.{List, [], ◌∷◌, map}
use mathlib.Core.Path.{◌≡◌, refl}
use Rattle.names.specs.Tests.{within}
use Rattle.names.specs.Read.{Read, got, one}
use Rattle.names.specs.Chain.{chain_in, chain, many}
use Rattle.names.specs.Texts.{bytes}
use Rattle.utf8.specs.Utf8.{octet, utf8_tail, utf8_2, utf8_3, utf8_4, longer}
use Rattle.utf8.specs.CodePoints.{encode, encode_all}
use Rattle.utf8.specs.Letters.{is_inner, plain, letter, letters}

-- A, not identical to, Alpha, full stop; three syllables of Korean; three characters of Japanese; a byte order mark and the stump of a tree
points : List (List ℕ)
points = (0x0041 ∷ 0x2262 ∷ 0x0391 ∷ 0x002E ∷ []) ∷ (0xD55C ∷ 0xAD6D ∷ 0xC5B4 ∷ []) ∷ (0x65E5 ∷ 0x672C ∷ 0x8A9E ∷ []) ∷ (0xFEFF ∷ 0x233B4 ∷ []) ∷ []

points_right : map encode_all points
    ≡ (0x41 ∷ 0xE2 ∷ 0x89 ∷ 0xA2 ∷ 0xCE ∷ 0x91 ∷ 0x2E ∷ [])
    ∷ (0xED ∷ 0x95 ∷ 0x9C ∷ 0xEA ∷ 0xB5 ∷ 0xAD ∷ 0xEC ∷ 0x96 ∷ 0xB4 ∷ [])
    ∷ (0xE6 ∷ 0x97 ∷ 0xA5 ∷ 0xE6 ∷ 0x9C ∷ 0xAC ∷ 0xE8 ∷ 0xAA ∷ 0x9E ∷ [])
    ∷ (0xEF ∷ 0xBB ∷ 0xBF ∷ 0xF0 ∷ 0xA3 ∷ 0x8E ∷ 0xB4 ∷ [])
    ∷ []
unfolding points encode_all encode
points_right = refl

-- letters up to a quote or a control byte; FFFF, a byte order mark and 80 are characters; a surrogate, an overlong form, 110000 and a letter cut in its middle are not
comments : List (Read (Unit {0}))
comments =
    letters (bytes "\"ab\"") 1 ∷ letters (bytes "\"\"") 1 ∷ letters (0x61 ∷ 0x01 ∷ []) 0
    ∷ letters (0xEF ∷ 0xBF ∷ 0xBF ∷ 0x22 ∷ []) 0 ∷ letters (0xEF ∷ 0xBB ∷ 0xBF ∷ 0x22 ∷ []) 0 ∷ letters (0xC2 ∷ 0x80 ∷ 0x22 ∷ []) 0
    ∷ letters (0xED ∷ 0xA0 ∷ 0x80 ∷ 0x22 ∷ []) 0 ∷ letters (0xC0 ∷ 0xAF ∷ 0x22 ∷ []) 0 ∷ letters (0xF4 ∷ 0x90 ∷ 0x80 ∷ 0x80 ∷ 0x22 ∷ []) 0
    ∷ letters (0x61 ∷ 0xE2 ∷ 0x82 ∷ 0x22 ∷ []) 0 ∷ letters (0x61 ∷ 0xC3 ∷ []) 0 ∷ []

comments_right : comments ≡ got tt 3 ∷ got tt 1 ∷ got tt 1 ∷ got tt 3 ∷ got tt 3 ∷ got tt 2 ∷ got tt 0 ∷ got tt 0 ∷ got tt 0 ∷ got tt 1 ∷ got tt 1 ∷ []
unfolding comments letters many chain chain_in letter plain is_inner longer utf8_2 utf8_3 utf8_4 utf8_tail octet one within
comments_right = refl
