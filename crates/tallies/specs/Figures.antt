-- A month's figures: each count over a list of answers and their records, by itself and without limit (02, Ask 4).
use Rattle.std.specs.Prelude.{ℕ, zero, suc, ◌+◌, List, [], ◌∷◌, ◌++◌, map, true, ◌≡◌, eqb, if◌then◌else◌}
use Rattle.lent_slots.specs.Tables.{Tables}
use Rattle.lent_slots.specs.Slots.{records_of}
use Rattle.tallies.specs.Counts.{one, marks_of}
use Rattle.tallies.specs.Answers.{answer_fits, taken_in}
use Rattle.tallies.specs.declared.Answer.{Answer}

-- an answer with its records
abbrev pub Read : Type 0
Read = Answer × Tables

-- a number for each of a list, added up
unfoldable pub sum_of : {A : Type 0} → (A → ℕ) → List A → ℕ
sum_of f [] = 0
sum_of f (x ∷ xs) = f x + sum_of f xs

-- how many answers have this number
abbrev pub answers_with : ℕ → List Read → ℕ
answers_with n = sum_of (λ (x : Read). if eqb x.0.number n then 1 else 0)

-- how many answers there are
abbrev pub read : List Read → ℕ
read = sum_of (λ (x : Read). 1)

abbrev pub warnings : List Read → ℕ
warnings = sum_of (λ (x : Read). x.0.warnings)

-- items of a kind, and marks, over the records of all tables
abbrev pub items : ℕ → List Read → ℕ
items k = sum_of (λ (x : Read). sum_of (one k) (records_of x.1))

abbrev pub marks : List Read → ℕ
marks = sum_of (λ (x : Read). sum_of marks_of (records_of x.1))

-- n numbers from k on
unfoldable pub up_from : ℕ → ℕ → List ℕ
up_from zero k = []
up_from (suc n) k = k ∷ up_from n (suc k)

-- every count: answers with each number, 0 to 23, answers, warnings, items of each kind, 2 to 8, marks
unfoldable pub figures : List Read → List ℕ
figures l =
    map (λ n. answers_with n l) (up_from 24 0)
    ++ (read l ∷ warnings l ∷ items 2 l ∷ items 3 l ∷ items 4 l ∷ items 5 l ∷ items 6 l ∷ items 7 l ∷ items 8 l ∷ marks l ∷ [])

-- ---- a run: a tally takes in one answer after the other

unfoldable pub run : List ℕ → List Read → List ℕ
run xs [] = xs
run xs (x ∷ l) = run (taken_in xs x.0 x.1).1 l

-- the answers that fit
unfoldable pub fitting : List Read → List Read
fitting [] = []
fitting (x ∷ l) = if answer_fits x.0 x.1 then x ∷ fitting l else fitting l

-- the answers that a run took in: those that were answered 0
unfoldable pub taken : List ℕ → List Read → List Read
taken xs [] = []
taken xs (x ∷ l) =
    if eqb (taken_in xs x.0 x.1).0 0 then x ∷ taken (taken_in xs x.0 x.1).1 l
    else taken (taken_in xs x.0 x.1).1 l

-- those that were refused: with a number from 1 to 23
abbrev pub refused : List Read → ℕ
refused l = sum_of (λ n. answers_with n l) (up_from 23 1)

-- each answer fits
abbrev pub AllFit : List Read → Type 0
AllFit [] = Unit {0}
AllFit (x ∷ l) = (answer_fits x.0 x.1 ≡ true) × AllFit l
