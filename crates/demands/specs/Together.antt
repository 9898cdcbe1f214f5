-- Demand 3, the parts of a sheet and the sheet: where the table holds everything, the sheet is accepted exactly when every part is, with their records in order
-- and their warnings added.
use Rattle.std.specs.Prelude.{ℕ, zero, suc, ◌+◌, ◌≤◌, ◌/◌, List, [], ◌∷◌, ◌++◌, ◌≡◌, ℤ, length, if◌then◌else◌}
use Rattle.lent_slots.specs.Tables.{Layout, laid}
use Rattle.sheet.specs.declared.Answer.{Answer}
use Rattle.sheet.specs.declared.PartAnswer.{PartAnswer}

-- the answer and the records of a text, and of a part
abbrev pub Reading : Type 0
Reading = Answer × List (List ℤ)

abbrev pub PartReading : Type 0
PartReading = PartAnswer × List (List ℤ)

-- what holds at every one of these places
abbrev pub Every : (ℕ → Type 0) → List ℕ → Type 0
Every P [] = Unit {0}
Every P (p ∷ ps) = P p × Every P ps

-- the sum of what is counted at them
abbrev pub total : (ℕ → ℕ) → List ℕ → ℕ
total f [] = 0
total f (p ∷ ps) = f p + total f ps

-- what is found at them, in order
abbrev pub in_order : {A : Type 0} → (ℕ → List A) → List ℕ → List A
in_order f [] = []
in_order f (p ∷ ps) = f p ++ in_order f ps

-- a reading r, with a table of n words, is accepted exactly when every part at these places is and the table holds all their records; then it has their records in order, and their counts are added
pub record Together (n : ℕ) (r : Reading) (part : ℕ → PartReading) (ps : List ℕ) : Type 0 where
  pub accepted : Every (λ p. (part p).0.number ≡ 0) ps → total (λ p. (part p).0.records) ps ≤ n / 16 → r.0.number ≡ 0
  pub every : r.0.number ≡ 0 → Every (λ p. (part p).0.number ≡ 0) ps
  pub holds : r.0.number ≡ 0 → total (λ p. (part p).0.records) ps ≤ n / 16
  pub made : r.0.number ≡ 0 → r.1 ≡ in_order (λ p. (part p).1) ps
  pub counted : r.0.number ≡ 0 → r.0.records ≡ total (λ p. (part p).0.records) ps
  pub warned : r.0.number ≡ 0 → r.0.warnings ≡ total (λ p. (part p).0.warnings) ps

-- a table with the records found at these places written over it one after another, from slot k on
abbrev pub written_over : {A : Type 0} → Layout A → (ℕ → List (List ℤ)) → List A → ℕ → List ℕ → List A
written_over d f t k [] = t
written_over d f t k (p ∷ ps) = written_over d f (laid d t k (f p)) (k + length (f p)) ps

-- the same of the calls: the one for the sheet and those for the parts at these places, whose records are f, each with the table t, which has room for n words
pub record TogetherCalls {A : Type 0} (d : Layout A) (n : ℕ) (t : List A) (sheet : Answer × List A) (part : ℕ → PartAnswer × List A) (f : ℕ → List (List ℤ)) (ps : List ℕ) : Type 0 where
  pub accepted : Every (λ p. (part p).0.number ≡ 0) ps → total (λ p. (part p).0.records) ps ≤ n / 16 → sheet.0.number ≡ 0
  pub every : sheet.0.number ≡ 0 → Every (λ p. (part p).0.number ≡ 0) ps
  pub holds : sheet.0.number ≡ 0 → total (λ p. (part p).0.records) ps ≤ n / 16
  pub counted : sheet.0.number ≡ 0 → sheet.0.records ≡ total (λ p. (part p).0.records) ps
  pub warned : sheet.0.number ≡ 0 → sheet.0.warnings ≡ total (λ p. (part p).0.warnings) ps
  pub made : sheet.0.number ≡ 0 → sheet.1 ≡ written_over d f t 0 ps
  pub parts : (p : ℕ) → (part p).1 ≡ laid d t 0 (f p)

-- the places of k calls at most that begin at p, each where the last one says that the next part is
abbrev pub walk : (ℕ → PartAnswer) → ℕ → ℕ → List ℕ
walk part zero p = []
walk part (suc k) p = p ∷ (if (part p).last then [] else walk part k (part p).next)
