use Rattle.std.proofs.Common.{rules}
use mathlib.Core.List.{List}
use mathlib.Core.Path.{◌≡◌, ◌∙◌}
use lib.IntN.{ℤ}
use Rattle.records.specs.Words.{day_words, words_of}
use Rattle.records.specs.Fits.{word_at}
use Rattle.records.proofs.Laws.{word_fits}
use Rattle.records.proofs.Arrays.{words_from, listed}
use Rattle.records.proofs.words.dates_words.Goals as goal

pub returns : goal.returns
unfolding words_of
returns c =
    let a : List ℤ = c.day_words.result in
    let b : List ℤ = c.day_words-2.result in
    let p : words_from a 0 5 ≡ day_words c.args.r.start.year c.args.r.start.day = listed 5 a (search rules) ∙ c.day_words.ensures in
    let q : words_from b 0 5 ≡ day_words c.args.r.end.year c.args.r.end.day = listed 5 b (search rules) ∙ c.day_words-2.ensures in
    rw (
      c.record_of.ensures,
      word_fits (word_at a 0) (search rules),
      word_fits (word_at a 1) (search rules),
      word_fits (word_at a 2) (search rules),
      word_fits (word_at a 3) (search rules),
      word_fits (word_at a 4) (search rules),
      word_fits c.from.result (search rules),
      word_fits c.from-2.result (search rules),
      word_fits (word_at b 0) (search rules),
      word_fits (word_at b 1) (search rules),
      word_fits (word_at b 2) (search rules),
      word_fits (word_at b 3) (search rules),
      word_fits (word_at b 4) (search rules),
      word_fits c.from-3.result (search rules),
      word_fits c.from-4.result (search rules),
      ← p,
      ← q,
    )
    (search rules)
