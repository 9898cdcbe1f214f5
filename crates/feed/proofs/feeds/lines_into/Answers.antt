-- Line by line.
-- ---- the places of a turn: at the loop's test, after the line's end is found, after the line is read, after its answer is kept, after the next line's place is found
-- ---- what holds there
use borrow.Author.Rules.{rules}
use native.Mathlib.Omega.{arith}
use mathlib.Core.Path.{refl, sym, ◌∙◌}
use Rattle.feed.proofs.LineLaws.{Turn, turn, end_fits}
use Rattle.feed.proofs.Readings.{Told, told, up_begin, up_turn, up_done}
use Rattle.feed.proofs.feeds.lines_into.Goals as goal

pub loop-at-init : goal.loop-at-init
loop-at-init c = (search rules, search rules, search rules, refl, refl, refl, refl, up_begin _ _ _ _)

pub slice_bounds-line_into-end : goal.slice_bounds-line_into-end
slice_bounds-line_into-end c = omega (arith, c.line_end-e.ensures, end_fits c.args.feed.now c.loop-at.at c.loop-at.invariant.1)

pub keep_answer-requires : goal.keep_answer-requires
keep_answer-requires c = ((let told : Told c.loop-at.records c.args.size c.line_into-a.result = told _ c.loop-at.records c.args.size _ c.loop-at.invariant.2 c.line_into-a.ensures in told)).small

pub overflow_add-records : goal.overflow_add-records
overflow_add-records c = let h = (let told : Told c.loop-at.records c.args.size c.line_into-a.result = told _ c.loop-at.records c.args.size _ c.loop-at.invariant.2 c.line_into-a.ensures in told) in omega arith

pub loop-at-smaller : goal.loop-at-smaller
loop-at-smaller c = let h = (let told : Turn c.args.feed.now c.loop-at.at c.line_end-e.result c.after_line-at.result = turn _ _ c.loop-at-test.true c.line_end-e.ensures c.after_line-at.ensures in told) in omega arith

pub loop-at-preserved : goal.loop-at-preserved
loop-at-preserved c = let turned = (let told : Turn c.args.feed.now c.loop-at.at c.line_end-e.result c.after_line-at.result = turn _ _ c.loop-at-test.true c.line_end-e.ensures c.after_line-at.ensures in told) in (
  omega arith,
  turned.fits,
  ((let told : Told c.loop-at.records c.args.size c.line_into-a.result = told _ c.loop-at.records c.args.size _ c.loop-at.invariant.2 c.line_into-a.ensures in told)).room,
  c.answer_words-1.given ∙ c.loop-at.invariant.3,
  c.answer_bytes-1.given ∙ c.loop-at.invariant.4,
  c.words-1.given ∙ c.loop-at.invariant.5,
  c.bytes-1.given ∙ c.loop-at.invariant.6,
  c.loop-at.invariant.7 ∙ up_turn _ _ c.loop-at.n c.loop-at.records _ _ turned c.line_into-a.ensures c.keep_answer.ensures,
)

pub shape_of-answer_words : goal.shape_of-answer_words
shape_of-answer_words c = c.loop-at.invariant.3

pub shape_of-answer_bytes : goal.shape_of-answer_bytes
shape_of-answer_bytes c = c.loop-at.invariant.4

pub shape_of-words : goal.shape_of-words
shape_of-words c = c.loop-at.invariant.5

pub shape_of-bytes : goal.shape_of-bytes
shape_of-bytes c = c.loop-at.invariant.6

pub returns : goal.returns
returns c = sym (c.loop-at.invariant.7 ∙ up_done _ _ c.loop-at.n c.loop-at.records _ _ c.loop-at.at c.loop-at-test.false)
