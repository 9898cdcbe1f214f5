-- Every table of bytes is the bytes of a table of words and fewer than a record's after them.
use Prim.Native.Nat.{ℕ, zero, suc, ◌+◌, ◌*◌, ◌/◌, ◌%◌, ◌<◌}
use mathlib.Core.List.{List, [], ◌∷◌, ◌++◌}
use mathlib.Core.Path.{◌≡◌, refl, ap, ◌∙◌}
use native.Mathlib.Omega.{arith}
use lib.IntN.{ℤ}
use lib.ListN.{length, take, drop, length-drop, take-append-drop}
use lib.Seq.{length-take-le}
use mir.Syntax.{w32}
use mir.Val.{Fits, to_z}
use mir.Facts.{of_z-to_z, sfits_to_z}
use Rattle.lent_slots.specs.Bytes.{little_endian, record_bytes}
use Rattle.demands.specs.Bytes.{AllBytes, AllWords, BytesOfWords}

-- the number that four bytes are, the lowest first
abbrev number : ℕ → ℕ → ℕ → ℕ → ℕ
number a b c d = a + 256 * b + 65536 * c + 16777216 * d

-- the words of bytes, four to a word
abbrev words_of : List ℕ → List ℤ
words_of [] = []
words_of (a ∷ []) = []
words_of (a ∷ b ∷ []) = []
words_of (a ∷ b ∷ c ∷ []) = []
words_of (a ∷ b ∷ c ∷ d ∷ l) = to_z w32 (number a b c d) ∷ words_of l

-- 32 bits hold it
number_fits_lem : (a b c d : ℕ) → a < 256 → b < 256 → c < 256 → d < 256 → Fits w32 (number a b c d)
number_fits_lem a b c d h i j k = record { fits = omega arith }

-- the lowest byte of a number
low : (b x : ℕ) → b < 256 → (b + 256 * x) % 256 ≡ b
low b x h = omega arith

-- and these are its bytes
number_bytes : (a b c d : ℕ) → a < 256 → b < 256 → c < 256 → d < 256 → little_endian (number a b c d) ≡ a ∷ b ∷ c ∷ d ∷ []
unfolding little_endian
number_bytes a b c d h i j k =
    let q₁ : number a b c d / 256 ≡ b + 256 * (c + 256 * d) = omega arith in
    let q₂ : number a b c d / 65536 ≡ c + 256 * d = omega arith in
    let q₃ : number a b c d / 16777216 ≡ d = omega arith in
    let e₀ : number a b c d % 256 ≡ a = omega arith in
    let e₁ : number a b c d / 256 % 256 ≡ b = ap (λ (n : ℕ). n % 256) q₁ ∙ low b (c + 256 * d) i in
    let e₂ : number a b c d / 65536 % 256 ≡ c = ap (λ (n : ℕ). n % 256) q₂ ∙ low c d j in
    rw (e₀, e₁, e₂, q₃)

-- k words' bytes
words_back : (k : ℕ) (l : List ℕ) → AllBytes l → length l ≡ k * 4 → (record_bytes (words_of l) ≡ l) × (length (words_of l) ≡ k) × AllWords (words_of l)
unfolding record_bytes
words_back zero [] h e = (refl, refl, tt)
words_back zero (a ∷ l) h e = absurd (omega arith)
words_back (suc k) [] h e = absurd (omega arith)
words_back (suc k) (a ∷ []) h e = absurd (omega arith)
words_back (suc k) (a ∷ b ∷ []) h e = absurd (omega arith)
words_back (suc k) (a ∷ b ∷ c ∷ []) h e = absurd (omega arith)
words_back (suc k) (a ∷ b ∷ c ∷ d ∷ l) (ha, (hb, (hc, (hd, h)))) e =
    let r = words_back k l h (omega arith) in
    let f = number_fits_lem a b c d ha hb hc hd in (
      ap (λ (n : ℕ). little_endian n ++ record_bytes (words_of l)) (of_z-to_z f) ∙ ap (λ (u : List ℕ). u ++ record_bytes (words_of l)) (number_bytes a b c d ha hb hc hd)
          ∙ ap (λ (u : List ℕ). a ∷ b ∷ c ∷ d ∷ u) r.0,
      ap suc r.1,
      (sfits_to_z f, r.2),
    )

-- the first of bytes are bytes
bytes_take : (n : ℕ) (l : List ℕ) → AllBytes l → AllBytes (take n l)
bytes_take zero l h = tt
bytes_take (suc n) [] h = tt
bytes_take (suc n) (b ∷ l) h = (h.0, bytes_take n l h.1)

-- every table of bytes
pub bytes_of_words : (t : List ℕ) → AllBytes t → BytesOfWords t
bytes_of_words t h =
    let m = length t / 64 in
    let n : length (take (m * 64) t) ≡ m * 16 * 4 = length-take-le (m * 64) t (omega arith) ∙ omega arith in
    let r = words_back (m * 16) (take (m * 64) t) (bytes_take (m * 64) t h) n in
    record {
      words = words_of (take (m * 64) t);
      rest = drop (m * 64) t;
      records = m;
      all_words = r.2;
      whole = r.1;
      short = simp length-drop (omega arith);
      same = ap (λ (u : List ℕ). u ++ drop (m * 64) t) r.0 ∙ take-append-drop (m * 64) t;
    }
