-- A text that is written into lent bytes.
use Rattle.std.specs.Prelude.{ℕ, ◌+◌, ◌-◌, ◌^◌, ◌≤◌, ◌≡◌, min, List, length}
use Rattle.std.proofs.lemmas.List.Edits.{sets}
use Rattle.prints.specs.declared.pens.LentPen.{LentPen}

-- the largest place that a pen counts
abbrev pub largest : ℕ
largest = 2 ^ 64 - 1

-- a pen's place and the lent bytes, after a text: it stands over the bytes from the place on, as far as they reach, the others are as before; all of it is counted
abbrev pub wrote : List ℕ → ℕ → List ℕ → ℕ × List ℕ
wrote text at out = (min (at + length text) largest, sets out at text)

-- a text is written from p to q, which has the same lent bytes (no more than a pen counts)
pub record Writes (text : List ℕ) (p q : LentPen) : Type 0 where
  pub whole : (q.at, q.out.now) ≡ wrote text p.at p.out.now
  pub lent : q.out.ghost_name ≡ p.out.ghost_name
  pub fits : length p.out.now ≤ largest
