-- What is counted, kept and judged, and the rules that are left, are the rules of the whole text.
use native.Mathlib.Omega.{arith}
use mathlib.Core.Path.{◌≡◌, refl, subst, ◌∙◌}
use Prim.Native.Nat.{ℕ}
use Rattle.std.specs.Prelude.{Option, Err}
use Rattle.text_rules.specs.Seen.{known}
use Rattle.text_rules.proofs.Turns.{Turned, read_turn, step, step_parted, filling_begin, filling_more, filling_end, filling_refused}
use Rattle.text_rules.proofs.texts.fill_rules.Goals as goal

pub loop-read-init : goal.loop-read-init
loop-read-init c = filling_begin _ _ _ _

pub returns-in-Err : goal.returns-in-Err
returns-in-Err c =
    filling_refused _ _ _ _ (c.loop-read.words, c.loop-read.bytes) (c.fill_rule.new.words, c.fill_rule.new.bytes) c.loop-read.slot c.loop-read.warned c.loop-read.at c.loop-read.separator c.loop-read.broken c.loop-read.invariant
    (step _ (c.loop-read.words, c.loop-read.bytes) (c.fill_rule.new.words, c.fill_rule.new.bytes) _ _ _ _ (Err c.in-Err.refusal) c.blanks-c.ensures c.in-Err.ensures refl)

pub returns-in_err-next : goal.returns-in_err-next
returns-in_err-next c =
    let refused : c.from_residual.result ≡ Err c.in_err-next.field-0.0 = grind arith in
    rw refused (filling_refused _ _ _ _ (c.loop-read.words, c.loop-read.bytes) (c.fill_rule.new.words, c.fill_rule.new.bytes) c.loop-read.slot c.loop-read.warned c.loop-read.at c.loop-read.separator c.loop-read.broken c.loop-read.invariant
    (step_parted _ (c.loop-read.words, c.loop-read.bytes) (c.fill_rule.new.words, c.fill_rule.new.bytes) _ _ _ _ (known c.in-Ok.read.0) c.in-Ok.read.1 (Err c.in_err-next.field-0.0) c.blanks-c.ensures c.in-Ok.ensures c.in_err-next.ensures))

pub overflow_add-slot : goal.overflow_add-slot
overflow_add-slot c = let turn = read_turn _ (c.loop-read.words, c.loop-read.bytes) (c.fill_rule.new.words, c.fill_rule.new.bytes) _ _ _ _ (known c.in-Ok.read.0) c.in-Ok.read.1 c.in_ok-next.e c.in_ok-next.next c.blanks-c.ensures c.in-Ok.ensures c.in_ok-next.ensures in omega (arith, turn.later, turn.stays, c.requires)

pub overflow_add-slot-in-loop-read : goal.overflow_add-slot-in-loop-read
overflow_add-slot-in-loop-read c = let turn = read_turn _ (c.loop-read.words, c.loop-read.bytes) (c.fill_rule.new.words, c.fill_rule.new.bytes) _ _ _ _ (known c.in-Ok.read.0) c.in-Ok.read.1 c.in_ok-next.e c.in_ok-next.next c.blanks-c.ensures c.in-Ok.ensures c.in_ok-next.ensures in omega (arith, turn.later, turn.stays, c.loop-read.invariant.low, c.requires)

pub overflow_add-warned : goal.overflow_add-warned
overflow_add-warned c = let turn = read_turn _ (c.loop-read.words, c.loop-read.bytes) (c.fill_rule.new.words, c.fill_rule.new.bytes) _ _ _ _ (known c.in-Ok.read.0) c.in-Ok.read.1 c.in_ok-next.e c.in_ok-next.next c.blanks-c.ensures c.in-Ok.ensures c.in_ok-next.ensures in omega (arith, turn.mild, turn.later, turn.stays, c.loop-read.invariant.mild, c.loop-read.invariant.few, c.requires)

pub returns-in_default : goal.returns-in_default
returns-in_default c =
    let last = subst (λ (n : Option ℕ). Turned c.args.m (c.loop-read.words, c.loop-read.bytes) (c.fill_rule.new.words, c.fill_rule.new.bytes) c.loop-read.slot c.loop-read.separator c.args.s.now c.loop-read.at c.in-Ok.read.0.items c.in-Ok.read.0.warnings c.in-Ok.read.0.first n c.in_ok-next.e.at) c.in_default.is (read_turn _ (c.loop-read.words, c.loop-read.bytes) (c.fill_rule.new.words, c.fill_rule.new.bytes) _ _ _ _ (known c.in-Ok.read.0) c.in-Ok.read.1 c.in_ok-next.e c.in_ok-next.next c.blanks-c.ensures c.in-Ok.ensures c.in_ok-next.ensures) in
    filling_end _ _ _ _ (c.loop-read.words, c.loop-read.bytes) (c.fill_rule.new.words, c.fill_rule.new.bytes) c.loop-read.slot c.loop-read.warned c.loop-read.at c.loop-read.separator c.loop-read.broken c.loop-read.invariant last ∙ rw (← c.first_of-broken.ensures) (c.counted.ensures _ _)

pub loop-read-smaller : goal.loop-read-smaller
loop-read-smaller c = let turn = read_turn _ (c.loop-read.words, c.loop-read.bytes) (c.fill_rule.new.words, c.fill_rule.new.bytes) _ _ _ _ (known c.in-Ok.read.0) c.in-Ok.read.1 c.in_ok-next.e c.in_ok-next.next c.blanks-c.ensures c.in-Ok.ensures c.in_ok-next.ensures in omega (arith, turn.later, turn.stays)

pub loop-read-preserved : goal.loop-read-preserved
loop-read-preserved c =
    let more = subst (λ (n : Option ℕ). Turned c.args.m (c.loop-read.words, c.loop-read.bytes) (c.fill_rule.new.words, c.fill_rule.new.bytes) c.loop-read.slot c.loop-read.separator c.args.s.now c.loop-read.at c.in-Ok.read.0.items c.in-Ok.read.0.warnings c.in-Ok.read.0.first n c.in_ok-next.e.at) c.in-Some.is (read_turn _ (c.loop-read.words, c.loop-read.bytes) (c.fill_rule.new.words, c.fill_rule.new.bytes) _ _ _ _ (known c.in-Ok.read.0) c.in-Ok.read.1 c.in_ok-next.e c.in_ok-next.next c.blanks-c.ensures c.in-Ok.ensures c.in_ok-next.ensures) in
    rw c.first_of-broken.ensures (filling_more _ _ _ _ (c.loop-read.words, c.loop-read.bytes) (c.fill_rule.new.words, c.fill_rule.new.bytes) c.loop-read.slot c.loop-read.warned c.loop-read.at c.loop-read.separator c.loop-read.broken c.loop-read.invariant c.requires c.words-1.given c.bytes-1.given more)
