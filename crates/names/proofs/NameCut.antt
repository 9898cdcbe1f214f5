-- The search for a name depends on nothing before its place and nothing from a `;` outside quotes on.
use Prim.Native.Nat.{ℕ, ◌-◌, ◌≤◌}
use mathlib.Core.List.{List, [], ◌∷◌, append-nil}
use mathlib.Core.Bool.{Bool, true, false, not, ◌&&◌, and-eq-true_iff}
use mathlib.Core.Path.{◌≡◌, refl, ap, ◌∙◌}
use native.Mathlib.Omega.{arith}
use native.Mathlib.Nat.{add-zero}
use lib.Dec.{eqb, leb}
use lib.ListN.{length, take, drop, take-append-drop}
use lib.Seq.{length-take-le}
use borrow.Author.Rules.{part_to_end}
use borrow.Author.Tests.{not-true, leb-true}
use Rattle.names.specs.Tests.{within}
use Rattle.names.specs.Read.{Read}
use Rattle.names.specs.Texts.{all_of}
use Rattle.names.specs.Names.{Row, Word, names, spelled_so, lower, letter, first_of, word, name}
use Rattle.names.proofs.Local.{Stop, stop_end, moved, keep, Local, loose, nothing_local, pure_local, branch_local, bind_local, then_local, only_local, one_local}

-- neither a quote nor a `;` counts as one of these letters
unfoldable pub plain : (ℕ → ℕ) → List ℕ → Bool
plain f [] = true
plain f (x ∷ xs) = not (eqb (f 34) x) && (not (eqb (f 59) x) && plain f xs)

pub all_of_local : {u : List ℕ} (f : ℕ → ℕ) (xs : List ℕ) → plain f xs ≡ true → Local Stop keep u false false (length xs) (all_of f xs) (all_of f xs)
unfolding all_of plain
all_of_local f [] c = pure_local tt
all_of_local f (x ∷ xs) c =
    let quote = (and-eq-true_iff (not (eqb (f 34) x)) (not (eqb (f 59) x) && plain f xs)).0 c in
    let stop = (and-eq-true_iff (not (eqb (f 59) x)) (plain f xs)).0 quote.1 in
    loose (bind_local (one_local (λ b. eqb (f b) x) (not-true _ quote.0) (not-true _ stop.0)) (λ _. all_of_local f xs stop.1)) (omega arith)

-- each name has two letters at least, and they are plain
unfoldable pub plain_rows : List Row → Bool
plain_rows [] = true
plain_rows (r ∷ rs) = leb 2 (length r.0) && (plain (letter r.1.0) r.0 && plain_rows rs)

names_plain : plain_rows names ≡ true
unfolding plain_rows plain names letter spelled_so lower within
names_plain = refl

pub first_of_local : {u : List ℕ} (rs : List Row) → plain_rows rs ≡ true → Local Stop keep u false false 2 (first_of rs) (first_of rs)
unfolding first_of plain_rows
first_of_local [] c = nothing_local
first_of_local (r ∷ rs) c =
    let some = (and-eq-true_iff (leb 2 (length r.0)) (plain (letter r.1.0) r.0 && plain_rows rs)).0 c in
    let rest = (and-eq-true_iff (plain (letter r.1.0) r.0) (plain_rows rs)).0 some.1 in
    branch_local {k = 2} {l = 0} (loose (all_of_local (letter r.1.0) r.0 rest.0) (leb-true 2 (length r.0) some.0)) (λ _. pure_local r.1) (first_of_local rs rest.1)

pub word_local : {u : List ℕ} → Local Stop keep u false false 2 word word
unfolding word
word_local = first_of_local names names_plain

pub name_local : {u : List ℕ} (k : ℕ) → Local Stop keep u false false 2 (name k) (name k)
unfolding name
name_local k = then_local word_local (λ w. then_local (only_local (eqb w.0 k)) (λ _. pure_local w.1))

-- the name at a place is the one with which the rest of the text begins
module _ (s : List ℕ) (n : ℕ) {r : Read Word} (h : n ≤ length s) (e : word (take (length s - n) (drop n s)) 0 ≡ r) where
  pub word_rest : word s n ≡ moved keep n r
  word_rest = rw (append-nil, take-append-drop, length-take-le n s h, add-zero) at ((word_local {u = take n s}).same (drop n s) [] 0 stop_end tt) ∙ ap (moved keep n) (rw (part_to_end s n) at e)
