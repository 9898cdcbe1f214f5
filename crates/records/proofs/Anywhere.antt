-- A judgement reads nothing.
use Rattle.std.specs.Prelude.{Ok, Err}
use Prim.Native.Nat.{ℕ}
use mathlib.Core.List.{List, []}
use mathlib.Core.Path.{◌≡◌, refl}
use Rattle.names.specs.Read.{Read, got, none, refused, Reader, follow, nothing, ◌>>=◌}
use Rattle.records.specs.Items.{Meant, judged, meant, item}
use Rattle.records.specs.declared.Item.{Item}

-- so it is the same in any text
pub judged_in : (p : ℕ) (x : Meant) (s t : List ℕ) (i : ℕ) → judged p x s i ≡ judged p x t i
judged_in p (Ok a) s t i = refl
judged_in p (Err k) s t i = refl

-- a shape that was read, judged
pub meant_is : {R : Type 0} (p : ℕ) (shape : Reader R) (meaning : R → Meant) {s : List ℕ} {i : ℕ} {r : R} {j : ℕ} {x : Meant} {y : Read Item} →
    shape s i ≡ got r j → x ≡ meaning r → judged p x [] j ≡ y → meant p shape meaning s i ≡ y
meant_is p shape meaning {s} {j = j} {x} h q e = rw (h, ← q, judged_in p x s [] j) e

-- an item, after its first part
pub item_after_lem : {A R : Type 0} (m : Reader A) (f : A → Reader R) (meaning : R → Meant) {s : List ℕ} {i : ℕ} {a : A} {j : ℕ} → m s i ≡ got a j → item (m >>= f) meaning s i ≡ meant i (f a) meaning s j
item_after_lem {R = R} m f meaning {s} {i} {a} {j} h = rw h (go (f a s j))
  where
    go : (x : Read R) → follow s i x (λ r. judged i (meaning r)) nothing ≡ follow s j x (λ r. judged i (meaning r)) nothing
    go (got r t) = refl
    go none = refl
    go (refused k p) = refl
