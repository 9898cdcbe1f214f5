-- The words of a record's bytes are the record's.
use Prim.Native.Nat.{ℕ, ◌+◌, ◌/◌, ◌%◌, ◌<◌}
use native.Mathlib.Nat.{add-zero}
use native.Mathlib.Omega.{arith}
use mathlib.Core.List.{List, [], ◌∷◌, ◌++◌, append_assoc}
use mathlib.Core.Path.{◌≡◌, refl, sym, ap, ◌∙◌}
use lib.IntN.{ℤ}
use lib.ListN.{length, get_or, length-append}
use lib.Seq.{get_or-append-add}
use mir.Syntax.{w32}
use mir.Val.{SFits, of_z}
use mir.Facts.{to_z-of_z, Fits-of_z}
use Rattle.lent_slots.specs.Bytes.{little_endian, word_bytes, record_bytes}
use Rattle.lent_slots.specs.Slots.{number_from, words_from}

-- four bytes make the number up again
pub number_of : (pre post : List ℕ) (n : ℕ) → n < 4294967296 → number_from (pre ++ (little_endian n ++ post)) (length pre) ≡ n
unfolding number_from little_endian
number_of pre post n h =
    let l = little_endian n ++ post in
    let e0 : get_or (pre ++ l) (length pre) 0 ≡ n % 256 = ap (λ k. get_or (pre ++ l) k 0) (sym (add-zero (length pre))) ∙ get_or-append-add pre l 0 0 in
    let e1 : get_or (pre ++ l) (length pre + 1) 0 ≡ n / 256 % 256 = get_or-append-add pre l 1 0 in
    let e2 : get_or (pre ++ l) (length pre + 2) 0 ≡ n / 65536 % 256 = get_or-append-add pre l 2 0 in
    let e3 : get_or (pre ++ l) (length pre + 3) 0 ≡ n / 16777216 = get_or-append-add pre l 3 0 in
    rw (e0, e1, e2, e3) (omega arith)

-- words that are held in 32 bits
abbrev pub AllHeld : List ℤ → Type 0
AllHeld [] = Unit {0}
AllHeld (z ∷ zs) = SFits w32 z × AllHeld zs

bytes_four : (pre : List ℕ) (z : ℤ) → length (pre ++ word_bytes z) ≡ length pre + 4
unfolding little_endian
bytes_four pre z = simp length-append

pub words_of_bytes : (w : List ℤ) (pre post : List ℕ) → AllHeld w → words_from (length w) (pre ++ (record_bytes w ++ post)) (length pre) ≡ w
unfolding words_from record_bytes
words_of_bytes [] pre post f = refl
words_of_bytes (z ∷ zs) pre post f =
    let b = Fits-of_z {w = w32} {z = z} f.0 in
    let n : number_from (pre ++ (word_bytes z ++ (record_bytes zs ++ post))) (length pre) ≡ of_z w32 z = number_of pre (record_bytes zs ++ post) (of_z w32 z) (omega arith) in
    let four : length (pre ++ word_bytes z) ≡ length pre + 4 = bytes_four pre z in
    let r : words_from (length zs) ((pre ++ word_bytes z) ++ (record_bytes zs ++ post)) (length (pre ++ word_bytes z)) ≡ zs = words_of_bytes zs (pre ++ word_bytes z) post f.1 in
    let s : words_from (length zs) (pre ++ (word_bytes z ++ (record_bytes zs ++ post))) (length pre + 4) ≡ zs = rw (append_assoc pre (word_bytes z) (record_bytes zs ++ post), four) at r in
    rw (append_assoc (word_bytes z) (record_bytes zs) post, n, to_z-of_z {w = w32} {z = z} f.0, s)
