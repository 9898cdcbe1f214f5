-- Characters one after another, a step at a time: what the code's loop goes by.
use Prim.Native.Nat.{ℕ, ◌+◌, ◌≤◌, ◌<◌}
use mathlib.Core.Bool.{true}
use mathlib.Core.List.{List, [], ◌∷◌, ◌++◌, append-nil}
use mathlib.Core.Path.{◌≡◌, refl, ap, ◌∙◌}
use native.Mathlib.Omega.{arith}
use native.Mathlib.Nat.{add-zero}
use lib.ListN.{length}
use Rattle.names.specs.Read.{Read, got, none, refused, Reader, follow, branch, nothing, pure, map}
use Rattle.names.specs.Chain.{many}
use Rattle.names.proofs.Local.{Ends, takes, moved, keep, stop_end}
use Rattle.names.proofs.Skips.{map_map, many_is}
use Rattle.utf8.specs.Utf8.{utf8_char, utf8_octets}
use Rattle.utf8.specs.Letters.{letter, letters}
use Rattle.utf8.proofs.Laws.{after_blank}
use Rattle.utf8.proofs.Cut.{char_ended, octets_ended, letter_ended}

-- as many as there are
abbrev all : Reader (Unit {0}) → Reader (Unit {0})
all m = map (λ _. tt) (many m)

module _ (m : Reader (Unit {0})) (takes : (s : List ℕ) (i : ℕ) → Ends (λ j. (i < j) × (j ≤ length s)) (m s i)) (s : List ℕ) (i : ℕ) where
  -- one and the others, or none
  all_is : all m s i ≡ branch m (λ _. all m) (pure tt) s i
  all_is = rw (many_is m takes s i) (go (m s i))
    where
      go : (r : Read (Unit {0})) → follow s i (follow s i r (λ b. map (λ l. b ∷ l) (many m)) (pure [])) (λ _. pure tt) nothing ≡ follow s i r (λ _. all m) (pure (tt {0}))
      go (got b j) = map_map (λ l. b ∷ l) (λ _. tt) s i j (many m s j)
      go none = refl
      go (refused k q) = refl

module _ (s : List ℕ) (i : ℕ) where
  -- characters of a comment
  pub letters_is : letters s i ≡ branch letter (λ _. letters) (pure tt) s i
  unfolding letters
  letters_is = all_is letter (takes (letter_ended {u = []} {a = true})) s i

  pub letters_more : {j : ℕ} → letter s i ≡ got tt j → letters s i ≡ letters s j
  letters_more e = letters_is ∙ rw e

  pub letters_stop : letter s i ≡ none → letters s i ≡ got tt i
  letters_stop e = letters_is ∙ rw e

  -- characters of any bytes
  pub octets_is : utf8_octets s i ≡ branch utf8_char (λ _. utf8_octets) (pure tt) s i
  unfolding utf8_octets
  octets_is = all_is utf8_char (takes (char_ended {u = []} {a = true})) s i

  pub octets_more : {j : ℕ} → utf8_char s i ≡ got tt j → utf8_octets s i ≡ utf8_octets s j
  octets_more e = octets_is ∙ rw e

  pub octets_stop : utf8_char s i ≡ none → utf8_octets s i ≡ got tt i
  octets_stop e = octets_is ∙ rw e

-- ---- characters of any bytes, moved

-- after the bytes u, the characters of t end where they do in t alone
pub octets_after : (u t : List ℕ) → utf8_octets (u ++ t) (length u) ≡ moved keep (length u) (utf8_octets t 0)
octets_after u t = rw (append-nil, add-zero) at ((octets_ended {u = u} {a = true}).same t [] 0 stop_end tt)

-- a reading that ends so where it is moved ended so where it was
pub unmoved : (n k : ℕ) (r : Read (Unit {0})) → moved keep n r ≡ got tt (n + k) → r ≡ got tt k
unmoved n k (got u j) e = let q : n + j ≡ n + k = cc in ap (λ (x : ℕ). got tt x) (omega arith)
unmoved n k none e = absurd (after_blank e)
unmoved n k (refused m p) e = absurd (let z : ◌≡◌ {A = ℕ} 0 1 = cc in omega arith)
