use Rattle.std.proofs.Common.{◌≡◌, ◌/◌, length, refl, ◌∙◌, rules, tests}
use Rattle.std.proofs.lemmas.Iterator.{YieldsList-from_range}
use Rattle.std.proofs.lemmas.Iterator.Search.{all_from_yields_List}
use native.Mathlib.Nat.{sub-zero}
use Rattle.almanac.specs.Numbers.{possible}
use Rattle.touched.specs.Days.{day_at, days_in, days_fit, all_possible}
use Rattle.touched.proofs.DayLaws.{all_asked}
use Rattle.touched.proofs.days.days_fit.Goals as goal

pub returns-then-b-eq0 : goal.returns-then-b-eq0
unfolding days_fit
returns-then-b-eq0 c =
    let b = c.args.b.now in
    let e : c.all.result ≡ all_possible (days_in b) =
    all_from_yields_List (λ k. possible (day_at b k)) _ _ _ c.all.ensures.ran (YieldsList-from_range 0 (length b / 12) (length b / 12) refl (sub-zero (length b / 12))) (λ x b q k. search (rules, tests)) ∙ all_asked b in
    rw (e, c.if-b-eq0.true)
