-- No second answer meets a promise: an answer is known by what it says.
use Prim.Native.Nat.{ℕ}
use mathlib.Core.Path.{◌≡◌, refl, sym, ap, ◌∙◌}
use lib.Dec.{eqb}
use Rattle.std.specs.Prelude.{Option, Some, None, Result, Ok, Err, if◌then◌else◌}
use Rattle.names.specs.Refusals.{number}
use Rattle.names.specs.Seen.{seen_by, seen_judged, seen_certain}
use Rattle.names.specs.declared.Cursor.{Cursor}
use Rattle.names.specs.declared.refusals.Reason.{Reason}
use Rattle.names.specs.declared.refusals.Reason.TheVariants as reason
use Rattle.names.specs.declared.refusals.Refusal.{Refusal}
use Rattle.records.specs.Seen.{seen_item_by, seen_item}
use Rattle.records.specs.declared.Item.{Item}

-- ---- a refusal is known by its number and its place

-- the reason of a number
abbrev reason_of : ℕ → Reason
reason_of n =
    if eqb n 1 then reason.TooLong
    else if eqb n 2 then reason.NoPart
    else if eqb n 3 then reason.NoShape
    else if eqb n 4 then reason.Range
    else if eqb n 5 then reason.WeekStep
    else if eqb n 6 then reason.YearsInverted
    else if eqb n 7 then reason.WeeksInverted
    else if eqb n 8 then reason.PointInTime
    else if eqb n 9 then reason.EasterDay
    else if eqb n 10 then reason.NoRoom
    else if eqb n 11 then reason.EmptyRule
    else if eqb n 12 then reason.BrokenQuote
    else if eqb n 13 then reason.IllFormedComment
    else if eqb n 19 then reason.UnknownEdition
    else if eqb n 22 then reason.HouseForm
    else reason.HouseOrder

reason_back : (r : Reason) → reason_of (number r) ≡ r
reason_back reason.TooLong = refl
reason_back reason.NoPart = refl
reason_back reason.NoShape = refl
reason_back reason.Range = refl
reason_back reason.WeekStep = refl
reason_back reason.YearsInverted = refl
reason_back reason.WeeksInverted = refl
reason_back reason.PointInTime = refl
reason_back reason.EasterDay = refl
reason_back reason.NoRoom = refl
reason_back reason.EmptyRule = refl
reason_back reason.BrokenQuote = refl
reason_back reason.IllFormedComment = refl
reason_back reason.UnknownEdition = refl
reason_back reason.HouseForm = refl
reason_back reason.HouseOrder = refl

pub reason_one : (r s : Reason) → number r ≡ number s → r ≡ s
reason_one r s e = sym (reason_back r) ∙ ap reason_of e ∙ reason_back s

-- ---- an answer is known by what it says, where that tells its values apart

-- what may be refused, by whatever a number tells
module _ {A B R : Type 0} (n : R → ℕ) (one : (r s : R) → n r ≡ n s → r ≡ s) (f : A → B) (h : (a b : A) → f a ≡ f b → a ≡ b) where
  pub one_answer_by : (x y : Result (Option (A × Cursor)) (Refusal R)) → seen_by n f x ≡ seen_by n f y → x ≡ y
  one_answer_by (Ok (Some x)) (Ok (Some y)) e = let i : x.1.at ≡ y.1.at = cc in let v : f x.0 ≡ f y.0 = cc in rw (h x.0 y.0 v, i)
  one_answer_by (Ok (Some x)) (Ok None) e = cc
  one_answer_by (Ok (Some x)) (Err s) e = cc
  one_answer_by (Ok None) (Ok (Some y)) e = cc
  one_answer_by (Ok None) (Ok None) e = refl
  one_answer_by (Ok None) (Err s) e = cc
  one_answer_by (Err r) (Ok (Some y)) e = cc
  one_answer_by (Err r) (Ok None) e = cc
  one_answer_by (Err r) (Err s) e = let p : r.place ≡ s.place = cc in let k : n r.reason ≡ n s.reason = cc in rw (one r.reason s.reason k, p)

module _ {A B : Type 0} (f : A → B) (h : (a b : A) → f a ≡ f b → a ≡ b) where
  -- what may be refused, by a reason
  pub judged_one_answer : (x y : Result (Option (A × Cursor)) (Refusal Reason)) → seen_judged f x ≡ seen_judged f y → x ≡ y
  judged_one_answer = one_answer_by number reason_one f h

  -- what is always there, or refused
  pub certain_one_answer : (x y : Result (A × Cursor) (Refusal Reason)) → seen_certain f x ≡ seen_certain f y → x ≡ y
  certain_one_answer (Ok x) (Ok y) e = let i : x.1.at ≡ y.1.at = cc in let v : f x.0 ≡ f y.0 = cc in rw (h x.0 y.0 v, i)
  certain_one_answer (Ok x) (Err s) e = cc
  certain_one_answer (Err r) (Ok y) e = cc
  certain_one_answer (Err r) (Err s) e = let p : r.place ≡ s.place = cc in let n : number r.reason ≡ number s.reason = cc in rw (reason_one r.reason s.reason n, p)

-- an item, refused by any number
pub number_one_answer : (x y : Result (Option (Item × Cursor)) (Refusal ℕ)) → seen_item_by (λ n. n) x ≡ seen_item_by (λ n. n) y → x ≡ y
number_one_answer = one_answer_by (λ n. n) (λ r s e. e) (λ a. a) (λ a b e. e)

-- by a reason
pub item_one_answer : (x y : Result (Option (Item × Cursor)) (Refusal Reason)) → seen_item x ≡ seen_item y → x ≡ y
item_one_answer = judged_one_answer (λ a. a) (λ a b e. e)
