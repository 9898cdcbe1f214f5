use Rattle.std.proofs.Common.{rules}
use mathlib.Core.List.{List}
use mathlib.Core.Path.{◌≡◌, ◌∙◌}
use lib.IntN.{ℤ}
use Rattle.records.specs.Words.{time_words, words_of}
use Rattle.records.specs.Fits.{word_at}
use Rattle.records.proofs.Laws.{word_fits}
use Rattle.records.proofs.Arrays.{words_from, listed}
use Rattle.records.proofs.words.span_words.Goals as goal

pub returns : goal.returns
unfolding words_of
returns c =
    let a : List ℤ = c.time_words.result in
    let b : List ℤ = c.time_words-2.result in
    let p : words_from a 0 2 ≡ time_words c.args.r.start = listed 2 a (search rules) ∙ c.time_words.ensures in
    let q : words_from b 0 2 ≡ time_words c.args.r.end = listed 2 b (search rules) ∙ c.time_words-2.ensures in
    rw (
      c.record_of.ensures,
      word_fits (word_at a 0) (search rules),
      word_fits (word_at a 1) (search rules),
      word_fits (word_at b 0) (search rules),
      word_fits (word_at b 1) (search rules),
      word_fits c.repeat_word.result (search rules),
      word_fits c.from.result (search rules),
      word_fits c.from-2.result (search rules),
      ← p,
      ← q,
      ← c.repeat_word.ensures,
    )
    (search rules)
