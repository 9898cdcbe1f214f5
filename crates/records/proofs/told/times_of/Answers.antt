use Rattle.std.proofs.Common.{rules, nat_eq, of_z}
use Prim.Native.Nat.{ℕ, ◌+◌}
use mathlib.Core.List.{List, [], ◌∷◌}
use mathlib.Core.Path.{◌≡◌, refl}
use mir.Syntax.{w32}
use lib.IntN.{ℤ}
use Rattle.records.specs.Ranges.{between, exactly}
use Rattle.records.specs.Fits.{word_at}
use Rattle.records.specs.Told.{time_at}
use Rattle.records.proofs.Laws.{word_fits}
use Rattle.records.proofs.told.times_of.Goals as goal

-- a time of its two words
two_words : (w : List ℤ) (k : ℕ) → time_at (word_at w k ∷ word_at w (k + 1) ∷ []) 0 ≡ time_at w k
unfolding time_at
two_words w k = refl

pub returns : goal.returns
unfolding between
returns c =
    let w : List ℤ = c.args.w in
    let open_end : nat_eq (of_z w32 (word_at w 6)) 1 ≡ exactly 1 (word_at w 6) = search rules in
    let point : nat_eq (of_z w32 (word_at w 7)) 1 ≡ exactly 1 (word_at w 7) = search rules in
    rw (
      c.time_of.ensures,
      c.time_of-2.ensures,
      c.repeat.ensures,
      word_fits (word_at w 1) (search rules),
      word_fits (word_at w 2) (search rules),
      word_fits (word_at w 3) (search rules),
      word_fits (word_at w 4) (search rules),
      word_fits (word_at w 5) (search rules),
      two_words w 1,
      two_words w 3,
      open_end,
      point,
    )
