-- The places of all parts of a text, part by part.
use Rattle.std.specs.Prelude.{if◌then◌else◌}
use Prim.Native.Nat.{ℕ, zero, suc, ◌+◌, ◌-◌, ◌≤◌, ◌<◌}
use mathlib.Core.List.{List, [], ◌∷◌, ◌++◌, append_assoc, append-nil}
use mathlib.Core.Bool.{true, false}
use mathlib.Core.Path.{◌≡◌, sym, ap, ◌∙◌}
use native.Mathlib.Omega.{arith}
use native.Mathlib.Nat.{add-zero, zero-add, suc-add, sub-zero}
use lib.ListN.{length}
use Rattle.parts.specs.Parts.{part_end, begins, beginnings, places}
use Rattle.parts.proofs.Laws.{part_begin}
use Rattle.parts.proofs.PartLaws.{begins_fits, begins_none, end_fits}

-- ---- the places from one on

-- the places of parts among m places from a on
abbrev among : List ℕ → ℕ → ℕ → List ℕ
among s a zero = []
among s a (suc m) = (if begins s a then a ∷ [] else []) ++ among s (suc a) m

-- those below a, and those from there on
among_add : (s : List ℕ) (a m : ℕ) → beginnings s a ++ among s a m ≡ beginnings s (a + m)
unfolding beginnings
among_add s a zero = append-nil (beginnings s a) ∙ ap (beginnings s) (sym (add-zero a))
among_add s a (suc m) =
    let e : suc a + m ≡ a + suc m = omega arith in
    sym (append_assoc (beginnings s a) (if begins s a then a ∷ [] else []) (among s (suc a) m)) ∙ among_add s (suc a) m ∙ ap (beginnings s) e

-- none among the first k
among_skip : (s : List ℕ) (a k m : ℕ) → ((q : ℕ) → a ≤ q → q < a + k → begins s q ≡ false) → among s a (k + m) ≡ among s (a + k) m
among_skip s a zero m h = rw (zero-add m, add-zero a)
among_skip s a (suc k) m h =
    let e : suc a + k ≡ a + suc k = omega arith in
    rw (suc-add k m, h a (omega arith) (omega arith), ← e) (among_skip s (suc a) k m (λ q l g. h q (omega arith) (omega arith)))

-- the places of the part at p and of those after it
abbrev pub places_from : List ℕ → ℕ → List ℕ
places_from s p = among s p (suc (length s) - p)

-- all places are those from 0 on
pub places_all : (s : List ℕ) → places s ≡ places_from s 0
unfolding beginnings
places_all s = ap (beginnings s) (sym (zero-add (suc (length s)))) ∙ sym (among_add s 0 (suc (length s))) ∙ ap (among s 0) (sym (sub-zero (suc (length s))))

-- the part at p, and those after the `;` that ends it
pub places_next : (s : List ℕ) (p : ℕ) → begins s p ≡ true → places_from s p ≡ p ∷ places_from s (suc (part_end s p))
places_next s p b =
    let e = part_end s p in
    let l : p ≤ e = omega (arith, part_begin s p) in
    let g : e ≤ length s = end_fits s p (begins_fits s p b) in
    let m : suc (length s) - p ≡ suc ((e - p) + (suc (length s) - suc e)) = omega arith in
    let n : suc p + (e - p) ≡ suc e = omega arith in
    rw (m, b) (ap (λ (r : List ℕ). p ∷ r) (among_skip s (suc p) (e - p) (suc (length s) - suc e) (λ q i j. begins_none s p q b i (omega arith)) ∙ ap (λ (a : ℕ). among s a (suc (length s) - suc e)) n))

-- after the text there is none
pub places_none : (s : List ℕ) (p : ℕ) → length s < p → places_from s p ≡ []
places_none s p h = let e : suc (length s) - p ≡ 0 = omega arith in rw e
