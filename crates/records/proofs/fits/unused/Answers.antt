use Rattle.std.proofs.Common.{rules}
use Prim.Native.Nat.{◌+◌, ◌-◌}
use mathlib.Core.Bool.{Bool, true, false, ◌&&◌}
use mathlib.Core.Path.{◌≡◌, sym, ap, ◌∙◌}
use native.Mathlib.Omega.{arith}
use Rattle.std.proofs.lemmas.List.{length-take}
use lib.IntN.{pos}
use lib.ListN.{length, drop, take, get_or}
use Rattle.records.specs.Ranges.{between, exactly, up}
use Rattle.records.specs.Fits.{word_at, unused}
use Rattle.records.proofs.Laws.{word_fits}
use Rattle.records.proofs.WordLaws.{unused_step, unused_last}
use Rattle.records.proofs.fits.unused.Goals as goal

pub returns-then-x-ne0 : goal.returns-then-x-ne0
unfolding between
returns-then-x-ne0 c =
    let n : length c.args.w ≡ 16 = search rules in
    let z : exactly 0 (get_or (take (15 - c.args.k) (drop c.args.k c.args.w)) c.loop-x.x-index (pos 0)) ≡ false = search rules in
    sym (c.loop-x.invariant ∙ unused_step c.args.w c.args.k c.loop-x.x-index n c.requires c.loop-x-test.true ∙ ap (λ (t : Bool). t && unused (drop (c.args.k + (c.loop-x.x-index + 1)) c.args.w)) z)

pub loop-x-preserved : goal.loop-x-preserved
unfolding between
loop-x-preserved c =
    let n : length c.args.w ≡ 16 = search rules in
    let z : exactly 0 (get_or (take (15 - c.args.k) (drop c.args.k c.args.w)) c.loop-x.x-index (pos 0)) ≡ true = search rules in
    c.loop-x.invariant ∙ unused_step c.args.w c.args.k c.loop-x.x-index n c.requires c.loop-x-test.true ∙ ap (λ (t : Bool). t && unused (drop (c.args.k + (c.loop-x.x-index + 1)) c.args.w)) z

pub returns : goal.returns
returns c =
    let n : length c.args.w ≡ 16 = search rules in
    let e : c.args.k + c.loop-x.x-index ≡ 15 = omega (arith, length-take (15 - c.args.k) (drop c.args.k c.args.w)) in
    c.up.ensures ∙ ap up (word_fits (word_at c.args.w 15) (search rules)) ∙ sym (c.loop-x.invariant ∙ ap (λ j. unused (drop j c.args.w)) e ∙ unused_last c.args.w n)
