-- The table of RFC 3629 and its code points say the same: bytes are well_formed_lem by the table exactly when they are scalar values, encoded.
use Prim.Native.Nat.{ℕ, zero, suc, ◌+◌, ◌-◌, ◌*◌, ◌/◌, ◌≤◌, ◌<◌}
use mathlib.Core.Bool.{Bool, true, false, not, true≢false, and-eq-true_iff}
use mathlib.Core.List.{List, [], ◌∷◌, ◌++◌}
use mathlib.Core.Path.{◌≡◌, refl, sym, ap, ◌∙◌}
use native.Mathlib.Omega.{arith}
use native.Mathlib.Decide.{dec_lt, ℕ_discrete}
use borrow.Author.Tests.{le-leb, lt-leb, leb-true, not-true}
use lib.Dec.{leb}
use lib.ListN.{length, get_or, drop, length-append}
use lib.Seq.{drop-cons}
use Rattle.names.specs.Tests.{within}
use Rattle.names.specs.Read.{Read, got, none, refused, Reader, follow, nothing}
use Rattle.names.proofs.Local.{past_one}
use Rattle.names.proofs.Laws.{within_true, within_below, within_above, within_range}
use Rattle.utf8.specs.Utf8.{octet, utf8_tail, longer, utf8_char, utf8_octets, two_more, three_more}
use Rattle.utf8.specs.CodePoints.{is_scalar, six_bits, encode, encode_all, all_scalar, WellFormed, Encoded, TableIsCodePoints}
use Rattle.utf8.proofs.Laws.{after_blank, same_place, octet_got, octet_past, octet_is, octet_not}
use Rattle.utf8.proofs.Rows.{longer_from, longer_to, at_c2, at_e0, at_3, at_ed, at_f0, at_f1, at_f4}
use Rattle.utf8.proofs.Firsts.{char_plain, char_longer, char_past}
use Rattle.utf8.proofs.Cut.{char_ended}
use Rattle.utf8.proofs.Repeats.{octets_is, octets_more, octets_stop, octets_after, unmoved}

-- ---- the bytes of a code point, by their number

module _ (c : ℕ) where
  bytes_1 : c < 0x80 → encode c ≡ c ∷ []
  unfolding encode
  bytes_1 h = rw (le-leb c 0x7F (omega arith))

  bytes_2 : 0x80 ≤ c → c < 0x800 → encode c ≡ (0xC0 + c / 64) ∷ six_bits c ∷ []
  unfolding encode
  bytes_2 l h = rw (lt-leb c 0x7F (omega arith), le-leb c 0x7FF (omega arith))

  bytes_3 : 0x800 ≤ c → c < 0x10000 → encode c ≡ (0xE0 + c / 4096) ∷ six_bits (c / 64) ∷ six_bits c ∷ []
  unfolding encode
  bytes_3 l h = rw (lt-leb c 0x7F (omega arith), lt-leb c 0x7FF (omega arith), le-leb c 0xFFFF (omega arith))

  bytes_4 : 0x10000 ≤ c → encode c ≡ (0xF0 + c / 262144) ∷ six_bits (c / 4096) ∷ six_bits (c / 64) ∷ six_bits c ∷ []
  unfolding encode
  bytes_4 l = rw (lt-leb c 0x7F (omega arith), lt-leb c 0x7FF (omega arith), lt-leb c 0xFFFF (omega arith))

-- ---- scalar values

-- in range, and no surrogate
record Scalar (c : ℕ) : Type 0 where
  top : c ≤ 0x10FFFF
  whole : 0xD800 ≤ c → 0xDFFF < c

scalar : (c : ℕ) → is_scalar c ≡ true → Scalar c
unfolding is_scalar
scalar c e =
    let b = (and-eq-true_iff (leb c 0x10FFFF) (not (within 0xD800 0xDFFF c))).0 e in
    record { top = leb-true c 0x10FFFF b.0; whole = λ l. go l (dec_lt 0xDFFF c) (not-true _ b.1) }
  where
    go : 0xD800 ≤ c → Dec (0xDFFF < c) → within 0xD800 0xDFFF c ≡ false → 0xDFFF < c
    go l (yes h) w = h
    go l (no h) w = absurd (true≢false (sym (within_true 0xD800 0xDFFF c l (omega arith)) ∙ w))

scalar_is : (c : ℕ) → Scalar c → is_scalar c ≡ true
unfolding is_scalar
scalar_is c w = rw (le-leb c 0x10FFFF w.top) (ap not (go (dec_lt c 0xD800)))
  where
    go : Dec (c < 0xD800) → within 0xD800 0xDFFF c ≡ false
    go (yes h) = within_below 0xD800 0xDFFF c h
    go (no h) = within_above 0xD800 0xDFFF c (omega arith) (w.whole (omega arith))

-- ---- the table reads what was encoded

module _ (s : List ℕ) (i lo hi : ℕ) (l : lo ≤ get_or s i 0) (h : get_or s i 0 ≤ hi) where
  two_is : i + 1 < length s → 0x80 ≤ get_or s (i + 1) 0 → get_or s (i + 1) 0 ≤ 0xBF → two_more lo hi s i ≡ got tt (i + 1 + 1)
  unfolding utf8_tail
  two_is n a b = rw (octet_is lo hi s i (omega arith) l h) (octet_is 0x80 0xBF s (i + 1) n a b)

  three_is : i + 1 + 1 < length s → 0x80 ≤ get_or s (i + 1) 0 → get_or s (i + 1) 0 ≤ 0xBF → 0x80 ≤ get_or s (i + 1 + 1) 0 → get_or s (i + 1 + 1) 0 ≤ 0xBF → three_more lo hi s i ≡ got tt (i + 1 + 1 + 1)
  unfolding utf8_tail
  three_is n a b c d = rw (octet_is lo hi s i (omega arith) l h, octet_is 0x80 0xBF s (i + 1) (omega arith) a b) (octet_is 0x80 0xBF s (i + 1 + 1) n c d)

-- the bytes of two, three and four, before others
abbrev two : ℕ → List ℕ → List ℕ
two c t = (0xC0 + c / 64) ∷ six_bits c ∷ t

abbrev three : ℕ → List ℕ → List ℕ
three c t = (0xE0 + c / 4096) ∷ six_bits (c / 64) ∷ six_bits c ∷ t

abbrev four : ℕ → List ℕ → List ℕ
four c t = (0xF0 + c / 262144) ∷ six_bits (c / 4096) ∷ six_bits (c / 64) ∷ six_bits c ∷ t

module _ (c : ℕ) (t : List ℕ) where
  read_2 : 0x80 ≤ c → c < 0x800 → longer (two c t) 0 ≡ got tt 2
  unfolding utf8_tail
  read_2 l h = at_c2 (two c t) 0 (omega arith) (omega arith) (omega arith) ∙ octet_is 0x80 0xBF (two c t) 1 (omega arith) (omega arith) (omega arith)

  read_3 : 0x800 ≤ c → c < 0x10000 → Scalar c → longer (three c t) 0 ≡ got tt 3
  read_3 l h w = go (dec_lt c 0x1000) (dec_lt c 0xD000) (dec_lt c 0xD800) (dec_lt c 0xE000)
    where
      go : Dec (c < 0x1000) → Dec (c < 0xD000) → Dec (c < 0xD800) → Dec (c < 0xE000) → longer (three c t) 0 ≡ got tt 3
      go (yes a) y x z = at_e0 (three c t) 0 (omega arith) (omega arith) ∙ two_is (three c t) 1 0xA0 0xBF (omega arith) (omega arith) (omega arith) (omega arith) (omega arith)
      go (no a) (yes b) x z =
          at_3 (three c t) 0 (omega arith) (omega arith) (omega arith) (omega arith)
          ∙ two_is (three c t) 1 0x80 0xBF (omega arith) (omega arith) (omega arith) (omega arith) (omega arith)
      go (no a) (no b) (yes x) z = at_ed (three c t) 0 (omega arith) (omega arith) ∙ two_is (three c t) 1 0x80 0x9F (omega arith) (omega arith) (omega arith) (omega arith) (omega arith)
      go (no a) (no b) (no x) (yes z) = absurd (omega (arith, w.whole (omega arith)))
      go (no a) (no b) (no x) (no z) =
          at_3 (three c t) 0 (omega arith) (omega arith) (omega arith) (omega arith)
          ∙ two_is (three c t) 1 0x80 0xBF (omega arith) (omega arith) (omega arith) (omega arith) (omega arith)

  read_4 : 0x10000 ≤ c → c ≤ 0x10FFFF → longer (four c t) 0 ≡ got tt 4
  read_4 l h = go (dec_lt c 0x40000) (dec_lt c 0x100000)
    where
      go : Dec (c < 0x40000) → Dec (c < 0x100000) → longer (four c t) 0 ≡ got tt 4
      go (yes a) y = at_f0 (four c t) 0 (omega arith) (omega arith) ∙ three_is (four c t) 1 0x90 0xBF (omega arith) (omega arith) (omega arith) (omega arith) (omega arith) (omega arith) (omega arith)
      go (no a) (yes b) =
          at_f1 (four c t) 0 (omega arith) (omega arith) (omega arith)
          ∙ three_is (four c t) 1 0x80 0xBF (omega arith) (omega arith) (omega arith) (omega arith) (omega arith) (omega arith) (omega arith)
      go (no a) (no b) =
          at_f4 (four c t) 0 (omega arith) (omega arith)
          ∙ three_is (four c t) 1 0x80 0x8F (omega arith) (omega arith) (omega arith) (omega arith) (omega arith) (omega arith) (omega arith)

  -- a scalar value, encoded, is a character
  read_char : Scalar c → utf8_char (encode c ++ t) 0 ≡ got tt (length (encode c))
  read_char w = go (dec_lt c 0x80) (dec_lt c 0x800) (dec_lt c 0x10000)
    where
      go : Dec (c < 0x80) → Dec (c < 0x800) → Dec (c < 0x10000) → utf8_char (encode c ++ t) 0 ≡ got tt (length (encode c))
      go (yes a) y z = rw (bytes_1 c a) (char_plain (c ∷ t) 0 (omega arith) a)
      go (no a) (yes b) z = rw (bytes_2 c (omega arith) b) (char_longer (two c t) 0 (omega arith) ∙ read_2 (omega arith) b)
      go (no a) (no b) (yes d) = rw (bytes_3 c (omega arith) d) (char_longer (three c t) 0 (omega arith) ∙ read_3 (omega arith) d w)
      go (no a) (no b) (no d) = rw (bytes_4 c (omega arith)) (char_longer (four c t) 0 (omega arith) ∙ read_4 (omega arith) w.top)

-- ---- what the table reads is a scalar value, encoded

-- a byte of a range was read
record Octet (lo hi : ℕ) (s : List ℕ) (i j : ℕ) : Type 0 where
  inside : i < length s
  low : lo ≤ get_or s i 0
  high : get_or s i 0 ≤ hi
  next : j ≡ i + 1

octet_was : (lo hi : ℕ) (s : List ℕ) (i j : ℕ) → octet lo hi s i ≡ got tt j → Octet lo hi s i j
octet_was lo hi s i j e = go (dec_lt i (length s)) (within lo hi (get_or s i 0)) refl
  where
    go : Dec (i < length s) → (t : Bool) → within lo hi (get_or s i 0) ≡ t → Octet lo hi s i j
    go (no h) t w = absurd (after_blank (sym (octet_past lo hi s i (omega arith)) ∙ e))
    go (yes h) false w = absurd (after_blank (sym (octet_not lo hi s i w) ∙ e))
    go (yes h) true w =
        let b = within_range lo hi (get_or s i 0) w in
        record { inside = h; low = b.0; high = b.1; next = same_place (sym (octet_got lo hi s i h w) ∙ e) }

-- of one reader after another, each found something
then_was : (s : List ℕ) (i j : ℕ) (r : Read (Unit {0})) (n : Reader (Unit {0})) → follow s i r (λ _. n) nothing ≡ got tt j → (k : ℕ) × (r ≡ got tt k) × (n s k ≡ got tt j)
then_was s i j (got u k) n e = (k, refl, e)
then_was s i j none n e = absurd (after_blank e)
then_was s i j (refused k p) n e = absurd (let z : ◌≡◌ {A = ℕ} 0 1 = cc in omega arith)

record Two (lo hi : ℕ) (s : List ℕ) (i j : ℕ) : Type 0 where
  first : Octet lo hi s i (i + 1)
  second : Octet 0x80 0xBF s (i + 1) j

record Three (lo hi : ℕ) (s : List ℕ) (i j : ℕ) : Type 0 where
  first : Octet lo hi s i (i + 1)
  others : Two 0x80 0xBF s (i + 1) j

module _ (lo hi : ℕ) (s : List ℕ) (i j : ℕ) where
  two_was : two_more lo hi s i ≡ got tt j → Two lo hi s i j
  unfolding utf8_tail
  two_was e =
      let p = then_was s i j (octet lo hi s i) utf8_tail e in
      let o = octet_was lo hi s i p.0 p.1 in
      record { first = rw o.next at o; second = octet_was 0x80 0xBF s (i + 1) j (rw o.next at p.2) }

module _ (lo hi : ℕ) (s : List ℕ) (i j : ℕ) where
  three_was : three_more lo hi s i ≡ got tt j → Three lo hi s i j
  unfolding utf8_tail
  three_was e =
      let p = then_was s i j (octet lo hi s i) (two_more 0x80 0xBF) e in
      let o = octet_was lo hi s i p.0 p.1 in
      record { first = rw o.next at o; others = two_was 0x80 0xBF s (i + 1) j (rw o.next at p.2) }

-- the first bytes of a text are a scalar value, encoded, and end at j
record Decoded (s : List ℕ) (j : ℕ) : Type 0 where
  value : ℕ
  whole : Scalar value
  rest : List ℕ
  is : s ≡ encode value ++ rest
  ends : j ≡ length (encode value)

module _ (s : List ℕ) where
  decoded_1 : 0 < length s → get_or s 0 0 < 0x80 → Decoded s 1
  decoded_1 h a =
      let v : ℕ = get_or s 0 0 in
      record { value = v; whole = record { top = omega arith; whole = λ l. omega arith }; rest = drop 1 s; is = rw (bytes_1 v a) (drop-cons s 0 0 h); ends = rw (bytes_1 v a) }

  decoded_2 : {j : ℕ} → 0 < length s → 0xC2 ≤ get_or s 0 0 → get_or s 0 0 ≤ 0xDF → Octet 0x80 0xBF s 1 j → Decoded s j
  decoded_2 {j} h l k o =
      let v : ℕ = (get_or s 0 0 - 0xC0) * 64 + (get_or s 1 0 - 0x80) in
      let b = bytes_2 v (omega arith) (omega arith) in
      let a₀ : 0xC0 + v / 64 ≡ get_or s 0 0 = omega arith in
      let a₁ : six_bits v ≡ get_or s 1 0 = omega arith in
      record {
        value = v;
        whole = record { top = omega arith; whole = λ l. omega arith };
        rest = drop 2 s;
        is = rw (b, a₀, a₁) (drop-cons s 0 0 h
            ∙ ap (λ (t : List ℕ). get_or s 0 0 ∷ t) (drop-cons s 1 0 o.inside));
        ends = rw b o.next;
      }

-- the values of three bytes, and of four
abbrev value_3 : List ℕ → ℕ
value_3 s = (get_or s 0 0 - 0xE0) * 4096 + (get_or s 1 0 - 0x80) * 64 + (get_or s 2 0 - 0x80)

abbrev value_4 : List ℕ → ℕ
value_4 s = (get_or s 0 0 - 0xF0) * 262144 + (get_or s 1 0 - 0x80) * 4096 + (get_or s 2 0 - 0x80) * 64 + (get_or s 3 0 - 0x80)

module _ (s : List ℕ) (lo hi : ℕ) (h : 0 < length s) (l : 0x80 ≤ lo) (k : hi ≤ 0xBF) where
  decoded_3 : {j : ℕ} → 0xE0 ≤ get_or s 0 0 → get_or s 0 0 ≤ 0xEF → Two lo hi s 1 j → 0x800 ≤ value_3 s → (0xD800 ≤ value_3 s → 0xDFFF < value_3 s) → Decoded s j
  decoded_3 {j} p q o m w =
      let v : ℕ = value_3 s in
      let b = bytes_3 v m (omega arith) in
      let a₀ : 0xE0 + v / 4096 ≡ get_or s 0 0 = omega arith in
      let a₁ : six_bits (v / 64) ≡ get_or s 1 0 = omega arith in
      let a₂ : six_bits v ≡ get_or s 2 0 = omega arith in
      let from_Second = drop-cons s 1 0 o.first.inside ∙ ap (λ (t : List ℕ). get_or s 1 0 ∷ t) (drop-cons s 2 0 o.second.inside) in
      record {
        value = v;
        whole = record { top = omega arith; whole = w };
        rest = drop 3 s;
        is =
            rw (b, a₀, a₁, a₂) (drop-cons s 0 0 h ∙ ap (λ (t : List ℕ). get_or s 0 0 ∷ t) from_Second);
        ends = rw b o.second.next;
      }

  decoded_4 : {j : ℕ} → 0xF0 ≤ get_or s 0 0 → get_or s 0 0 ≤ 0xF4 → Three lo hi s 1 j → 0x10000 ≤ value_4 s → value_4 s ≤ 0x10FFFF → Decoded s j
  decoded_4 {j} p q o m w =
      let v : ℕ = value_4 s in
      let b = bytes_4 v m in
      let a₀ : 0xF0 + v / 262144 ≡ get_or s 0 0 = omega arith in
      let a₁ : six_bits (v / 4096) ≡ get_or s 1 0 = omega arith in
      let a₂ : six_bits (v / 64) ≡ get_or s 2 0 = omega arith in
      let a₃ : six_bits v ≡ get_or s 3 0 = omega arith in
      let from-third = drop-cons s 2 0 o.others.first.inside ∙ ap (λ (t : List ℕ). get_or s 2 0 ∷ t) (drop-cons s 3 0 o.others.second.inside) in
      let from_Second = drop-cons s 1 0 o.first.inside ∙ ap (λ (t : List ℕ). get_or s 1 0 ∷ t) from-third in
      record {
        value = v;
        whole = record { top = w; whole = λ _. omega arith };
        rest = drop 4 s;
        is = rw (b, a₀, a₁, a₂, a₃) (drop-cons s 0 0 h ∙ ap (λ (t : List ℕ). get_or s 0 0 ∷ t) from_Second);
        ends = rw b o.others.second.next;
      }

-- a longer character, by its first byte
module _ (s : List ℕ) {j : ℕ} (h : 0 < length s) (e : longer s 0 ≡ got tt j) where
  was_3 : 0xE0 ≤ get_or s 0 0 → get_or s 0 0 ≤ 0xEF → Decoded s j
  was_3 p q = go (ℕ_discrete (get_or s 0 0) 0xE0) (ℕ_discrete (get_or s 0 0) 0xED)
    where
      go : Dec (get_or s 0 0 ≡ 0xE0) → Dec (get_or s 0 0 ≡ 0xED) → Decoded s j
      go (yes a) y =
          let o = two_was 0xA0 0xBF s 1 j (sym (at_e0 s 0 h a) ∙ e) in
          decoded_3 s 0xA0 0xBF h (omega arith) (omega arith) p q o (omega arith) (λ l. omega arith)
      go (no a) (yes b) =
          let o = two_was 0x80 0x9F s 1 j (sym (at_ed s 0 h b) ∙ e) in
          decoded_3 s 0x80 0x9F h (omega arith) (omega arith) p q o (omega arith) (λ l. omega arith)
      go (no a) (no b) =
          let o = two_was 0x80 0xBF s 1 j (sym (at_3 s 0 h (omega arith) q b) ∙ e) in
          decoded_3 s 0x80 0xBF h (omega arith) (omega arith) p q o (omega arith) (λ l. omega arith)

  was_4 : 0xF0 ≤ get_or s 0 0 → get_or s 0 0 ≤ 0xF4 → Decoded s j
  was_4 p q = go (ℕ_discrete (get_or s 0 0) 0xF0) (ℕ_discrete (get_or s 0 0) 0xF4)
    where
      go : Dec (get_or s 0 0 ≡ 0xF0) → Dec (get_or s 0 0 ≡ 0xF4) → Decoded s j
      go (yes a) y =
          let o = three_was 0x90 0xBF s 1 j (sym (at_f0 s 0 h a) ∙ e) in
          decoded_4 s 0x90 0xBF h (omega arith) (omega arith) p q o (omega arith) (omega arith)
      go (no a) (yes b) =
          let o = three_was 0x80 0x8F s 1 j (sym (at_f4 s 0 h b) ∙ e) in
          decoded_4 s 0x80 0x8F h (omega arith) (omega arith) p q o (omega arith) (omega arith)
      go (no a) (no b) =
          let o = three_was 0x80 0xBF s 1 j (sym (at_f1 s 0 h (omega arith) (omega arith)) ∙ e) in
          decoded_4 s 0x80 0xBF h (omega arith) (omega arith) p q o (omega arith) (omega arith)

  was_longer : Decoded s j
  unfolding utf8_tail
  was_longer = go (dec_lt (get_or s 0 0) 0xC2) (dec_lt (get_or s 0 0) 0xE0) (dec_lt (get_or s 0 0) 0xF0) (dec_lt 0xF4 (get_or s 0 0))
    where
      go : Dec (get_or s 0 0 < 0xC2) → Dec (get_or s 0 0 < 0xE0) → Dec (get_or s 0 0 < 0xF0) → Dec (0xF4 < get_or s 0 0) → Decoded s j
      go (yes a) x y z = absurd (after_blank (sym (longer_from.below s 0 a) ∙ e))
      go (no a) (yes b) y z = decoded_2 s h (omega arith) (omega arith) (octet_was 0x80 0xBF s 1 j (sym (at_c2 s 0 h (omega arith) (omega arith)) ∙ e))
      go (no a) (no b) (yes c) z = was_3 (omega arith) (omega arith)
      go (no a) (no b) (no c) (yes d) = absurd (after_blank (sym (longer_to.above s 0 d) ∙ e))
      go (no a) (no b) (no c) (no d) = was_4 (omega arith) (omega arith)

-- any character
was_char : (s : List ℕ) {j : ℕ} → 0 < length s → utf8_char s 0 ≡ got tt j → Decoded s j
was_char s {j} h e = go (dec_lt (get_or s 0 0) 0x80)
  where
    go : Dec (get_or s 0 0 < 0x80) → Decoded s j
    go (yes a) = rw (same_place (sym (char_plain s 0 h a) ∙ e)) (decoded_1 s h a)
    go (no a) = was_longer s h (sym (char_longer s 0 (omega arith)) ∙ e)

-- ---- one after another

encoded_reads : (cs : List ℕ) → all_scalar cs ≡ true → WellFormed (encode_all cs)
unfolding all_scalar encode_all
encoded_reads [] e = octets_stop [] 0 (char_past [] 0 (omega arith))
encoded_reads (c ∷ cs) e =
    let b = (and-eq-true_iff (is_scalar c) (all_scalar cs)).0 e in
    octets_more (encode c ++ encode_all cs) 0 (read_char c (encode_all cs) (scalar c b.0)) ∙ octets_after (encode c) (encode_all cs) ∙ rw (encoded_reads cs b.1, length-append)

-- what is well_formed_lem after well_formed_lem bytes is so alone
rest_reads : (u t : List ℕ) → utf8_octets (u ++ t) (length u) ≡ got tt (length (u ++ t)) → WellFormed t
rest_reads u t e = unmoved (length u) (length t) (utf8_octets t 0) (sym (octets_after u t) ∙ e ∙ ap (λ (n : ℕ). got tt n) (length-append u t))

-- a character, and the scalar values of what follows it
module _ (s : List ℕ) (e : WellFormed s) {j : ℕ} (c : utf8_char s 0 ≡ got tt j) (d : Decoded s j) where
  rest_is : WellFormed d.rest
  rest_is = rest_reads (encode d.value) d.rest (rw (d.is, d.ends) at (sym (octets_more s 0 c) ∙ e))

  rest_less : length d.rest < length s
  rest_less = omega (arith, ap length d.is ∙ length-append (encode d.value) d.rest, d.ends, past_one (char_ended {a = true}) c)

  rest_joins : Encoded d.rest → Encoded s
  unfolding all_scalar encode_all
  rest_joins r =
      record { values = d.value ∷ r.values; scalar = rw (scalar_is d.value d.whole) r.scalar; is = d.is ∙ ap (λ (t : List ℕ). encode d.value ++ t) r.is }

-- no bytes, no values
none_encoded : (s : List ℕ) → length s ≤ 0 → Encoded s
unfolding all_scalar encode_all
none_encoded [] h = record { values = []; scalar = refl; is = refl }
none_encoded (x ∷ s) h = absurd (omega arith)

-- texts of up to n bytes
reads_encoded : (n : ℕ) (s : List ℕ) → length s ≤ n → WellFormed s → Encoded s
reads_encoded zero s h e = none_encoded s h
reads_encoded (suc n) s h e = go (λ t l w. reads_encoded n t l w) (dec_lt 0 (length s)) (utf8_char s 0) refl
  where
    go : ((t : List ℕ) → length t ≤ n → WellFormed t → Encoded t) → Dec (0 < length s) → (r : Read (Unit {0})) → utf8_char s 0 ≡ r → Encoded s
    go f (no l) r c = none_encoded s (omega arith)
    go f (yes l) (got u j) c =
        let d = was_char s l c in
        rest_joins s e c d (f d.rest (omega (arith, rest_less s e c d)) (rest_is s e c d))
    go f (yes l) none c = absurd (omega (arith, same_place (sym (octets_stop s 0 c) ∙ e)))
    go f (yes l) (refused k p) c = absurd (let z : ◌≡◌ {A = ℕ} 0 1 = cc (octets_is s 0) in omega arith)

-- both ways
pub table_is_code_points : TableIsCodePoints
table_is_code_points s = (reads_encoded (length s) s (omega arith), λ r. rw r.is (encoded_reads r.values r.scalar))
