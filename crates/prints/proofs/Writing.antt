-- One text written after another.
use Prim.Native.Nat.{ℕ, suc, ◌+◌, ◌≤◌, min}
use mathlib.Core.List.{List, [], ◌∷◌, ◌++◌}
use mathlib.Core.Path.{◌≡◌, refl, sym, ap, ◌∙◌}
use native.Mathlib.Omega.{arith, min_cases}
use lib.ListN.{length, set, length-append}
use lib.Seq.{sets, set_out, length-sets}
use Rattle.prints.specs.declared.pens.LentPen.{LentPen}
use Rattle.prints.specs.Pens.{largest, wrote, Writes}

-- stores past the end change nothing
sets_out : (t : List ℕ) (i : ℕ) (vs : List ℕ) → length t ≤ i → sets t i vs ≡ t
sets_out t i [] h = refl
sets_out t i (v ∷ vs) h = let e : set t i v ≡ t = set_out t i v h in rw e (sets_out t (suc i) vs (omega arith))

-- two runs of stores, one after the other
sets_append : (x y t : List ℕ) (i : ℕ) → sets t i (x ++ y) ≡ sets (sets t i x) (i + length x) y
sets_append [] y t i = ap (λ (n : ℕ). sets t n y) (omega arith)
sets_append (a ∷ x) y t i = let e : suc i + length x ≡ i + suc (length x) = omega arith in sets_append x y (set t i a) (suc i) ∙ ap (λ (n : ℕ). sets (sets t i (a ∷ x)) n y) e

-- the place where a pen stops counting is past the end
sets_largest : (t : List ℕ) (i : ℕ) (vs : List ℕ) → length t ≤ largest → sets t (min i largest) vs ≡ sets t i vs
sets_largest t i vs h =
    min_cases i largest (sets t (min i largest) vs ≡ sets t i vs)
    (λ l e. ap (λ (n : ℕ). sets t n vs) e)
    (λ l e. sets_out t (min i largest) vs (omega arith) ∙ sym (sets_out t i vs (omega arith)))

-- a text, and the next where its pen is
pub wrote_append : (x y : List ℕ) (at : ℕ) (out : List ℕ) {p : ℕ} {o : List ℕ} → length out ≤ largest → (p, o) ≡ wrote x at out → wrote y p o ≡ wrote (x ++ y) at out
wrote_append x y at out {p} {o} h e =
    let ep : p ≡ min (at + length x) largest = ap (λ r. r.0) e in
    let eo : o ≡ sets out at x = ap (λ r. r.1) e in
    let l : min (min (at + length x) largest + length y) largest ≡ min (at + length (x ++ y)) largest = rw length-append (omega arith) in
    let s : sets (sets out at x) (min (at + length x) largest) y ≡ sets out at (x ++ y) = sets_largest (sets out at x) (at + length x) y (rw length-sets h) ∙ sym (sets_append x y out at) in
    rw (ep, eo, l, s)

-- nothing is written where the pen stays
pub nothing : (p : LentPen) → p.at ≤ largest → length p.out.now ≤ largest → Writes [] p p
nothing p h f = record { whole = let e : p.at ≡ min (p.at + 0) largest = omega arith in ap (λ (n : ℕ). (n, p.out.now)) e; lent = refl; fits = f }

-- two texts, one after the other
pub then : {x y : List ℕ} {p q r : LentPen} → Writes x p q → Writes y q r → Writes (x ++ y) p r
then {x} {y} {p} {q} {r} a b = record { whole = b.whole ∙ wrote_append x y p.at p.out.now a.fits a.whole; lent = b.lent ∙ a.lent; fits = a.fits }

-- a text in other words
pub same : {x y : List ℕ} {p q : LentPen} → Writes x p q → x ≡ y → Writes y p q
same a e = rw e at a

-- the place moves by the text's length at most
pub most : {x : List ℕ} {p q : LentPen} → Writes x p q → q.at ≤ p.at + length x
most {x} {p} {q} a = omega (arith, ap (λ r. r.0) a.whole)
