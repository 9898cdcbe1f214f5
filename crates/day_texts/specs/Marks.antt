-- Marks after others or none.
use Rattle.std.specs.Prelude.{ℕ, Bool, true, false, List, ◌++◌, ◌≡◌, ℤ}
use Rattle.prints.specs.declared.pens.LentPen.{LentPen}
use Rattle.prints.specs.Pens.{wrote}
use Rattle.sheet_texts.specs.Texts.{Text}
use Rattle.sheet_texts.specs.Days as texts

-- marks, a comma before each but the first of all
abbrev pub marks_from : Bool → List ℤ → Text
marks_from true l = texts.marks l
marks_from false l = texts.more_marks l

-- from pen p to pen q, of the same lent bytes, these marks are written: whatever marks follow there, follow here. Before p (a) and before q (b): whether there are none
pub record Marks (xs : List ℤ) (a : Bool) (p : LentPen) (b : Bool) (q : LentPen) : Type 0 where
  pub text : (l : List ℤ) (v : List ℕ) → wrote (marks_from a (xs ++ l) v) p.at p.out.now ≡ wrote (marks_from b l v) q.at q.out.now
  pub lent : q.out.ghost_name ≡ p.out.ghost_name
