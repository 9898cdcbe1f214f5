-- Counts in bytes and out of them.
use Prim.Native.Nat.{ℕ, zero, suc, ◌+◌, ◌*◌, ◌≤◌, ◌<◌}
use native.Mathlib.Numerals.{add-one, add-four}
use native.Mathlib.Omega.{arith}
use mathlib.Core.List.{List, [], ◌∷◌, ◌++◌, append_assoc, append-nil}
use mathlib.Core.Bool.{true, and-eq-true_iff}
use mathlib.Core.Path.{◌≡◌, refl, sym, ap, ◌∙◌}
use borrow.Author.Tests.{leb-true}
use lib.Dec.{leb}
use lib.ListN.{length, get_or, take, drop, set, length-append, drop_of_length-le}
use lib.Seq.{take_all, take-suc-set, drop-cons, sets, sets-eq}
use Rattle.lent_slots.specs.Bytes.{little_endian}
use Rattle.lent_slots.specs.Slots.{number_from}
use Rattle.lent_slots.proofs.OfBytes.{number_of}
use Rattle.tallies.specs.Sums.{most, all_within}
use Rattle.tallies.specs.Stored.{numbers_from, bytes_of}

-- ---- counts are read

numbers_more : (i : ℕ) (b : List ℕ) (p : ℕ) → numbers_from (suc i) b p ≡ numbers_from i b p ++ (number_from b (p + i * 4) ∷ [])
unfolding numbers_from
numbers_more zero b p = let h : p + 0 * 4 ≡ p = omega arith in rw h
numbers_more (suc i) b p =
    let h : p + 4 + i * 4 ≡ p + suc i * 4 = omega arith in
    let q : numbers_from (suc i) b (p + 4) ≡ numbers_from i b (p + 4) ++ (number_from b (p + 4 + i * 4) ∷ []) = numbers_more i b (p + 4) in
    ap (λ (l : List ℕ). number_from b p ∷ l) (q ∙ ap (λ n. numbers_from i b (p + 4) ++ (number_from b n ∷ [])) h)

-- the first i counts are read
pub number_more : (c b : List ℕ) (i : ℕ) {v : ℕ} → i < length c → v ≡ number_from b (i * 4) → take i c ≡ numbers_from i b 0 → take (i + 1) (set c i v) ≡ numbers_from (i + 1) b 0
number_more c b i {v} h e q =
    let z : i * 4 ≡ 0 + i * 4 = omega arith in
    rw (add-one i, take-suc-set c i v h, q, e) (ap (λ n. numbers_from i b 0 ++ (number_from b n ∷ [])) z ∙ sym (numbers_more i b 0))

pub none_read : (b : List ℕ) → numbers_from 0 b 0 ≡ []
unfolding numbers_from
none_read b = refl

pub all_read : (c b : List ℕ) (n i : ℕ) → length c ≡ n → i ≡ n → take i c ≡ numbers_from i b 0 → c ≡ numbers_from n b 0
all_read c b n i l e q = sym (take_all n c (omega arith)) ∙ rw e at q

-- ---- counts are stored

pub bytes_length : (c : List ℕ) → length (bytes_of c) ≡ length c * 4
unfolding bytes_of little_endian
bytes_length [] = refl
bytes_length (x ∷ c) = omega (arith, bytes_length c)

-- from bytes b₀ to bytes b, the first i counts are stored
module _ (b₀ b c : List ℕ) (i : ℕ) (q : sets b₀ 0 (bytes_of c) ≡ sets b (i * 4) (bytes_of (drop i c))) where
  pub count_more : {u : List ℕ} {v : ℕ} → i < length c → v ≡ get_or c i 0 → u ≡ sets b (i * 4) (little_endian v) → sets b₀ 0 (bytes_of c) ≡ sets u ((i + 1) * 4) (bytes_of (drop (i + 1) c))
  unfolding bytes_of little_endian
  count_more h e f = let z : (i + 1) * 4 ≡ i * 4 + 4 = omega arith in rw (z, q, f, e, drop-cons c i 0, add-one i, add-four)

  pub count_end : length c ≤ i → length b₀ ≡ length c * 4 → b ≡ bytes_of c
  unfolding bytes_of
  count_end h l =
      let e : b ≡ sets b₀ 0 (bytes_of c) = rw (q, drop_of_length-le c {i = i} h) in
      let m : length (bytes_of c) ≡ length b₀ = bytes_length c ∙ sym l in
      let none : drop (0 + length (bytes_of c)) b₀ ≡ [] = drop_of_length-le b₀ {i = 0 + length (bytes_of c)} (omega arith) in
      e ∙ sets-eq (bytes_of c) b₀ 0 (omega arith) ∙ ap (λ (l : List ℕ). bytes_of c ++ l) none ∙ append-nil (bytes_of c)

-- ---- what is stored is read again

four_more : (pre : List ℕ) (x : ℕ) → length (pre ++ little_endian x) ≡ length pre + 4
unfolding little_endian
four_more pre x = simp length-append

pub numbers_of_bytes : (c pre post : List ℕ) → all_within c ≡ true → numbers_from (length c) (pre ++ (bytes_of c ++ post)) (length pre) ≡ c
unfolding numbers_from bytes_of all_within
numbers_of_bytes [] pre post f = refl
numbers_of_bytes (x ∷ c) pre post f =
    let b = (and-eq-true_iff (leb x most) (all_within c)).0 f in
    let n : number_from (pre ++ (little_endian x ++ (bytes_of c ++ post))) (length pre) ≡ x = number_of pre (bytes_of c ++ post) x (omega (arith, leb-true x most b.0)) in
    let four : length (pre ++ little_endian x) ≡ length pre + 4 = four_more pre x in
    let r : numbers_from (length c) ((pre ++ little_endian x) ++ (bytes_of c ++ post)) (length (pre ++ little_endian x)) ≡ c = numbers_of_bytes c (pre ++ little_endian x) post b.1 in
    let s : numbers_from (length c) (pre ++ (little_endian x ++ (bytes_of c ++ post))) (length pre + 4) ≡ c = rw (append_assoc pre (little_endian x) (bytes_of c ++ post), four) at r in
    rw (append_assoc (little_endian x) (bytes_of c) post, n, s)

pub ruleset read_steps = (number_more, none_read, all_read)

pub ruleset store_steps = (count_more, count_end)
