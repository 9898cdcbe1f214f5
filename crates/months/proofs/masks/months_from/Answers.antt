use Rattle.std.proofs.Common.{◌≡◌, None, refl, sym, ap, ◌∙◌, rules}
use Rattle.std.specs.List.{fold}
use Rattle.std.proofs.lemmas.Iterator.Consumers.{fold_from_yields_List, YieldsList-from_first}
use Rattle.touched.specs.Walk.{items_left}
use Rattle.months.specs.Masks.{asked}
use Rattle.months.proofs.Laws.{number, rule_asked}
use Rattle.months.proofs.masks.months_from.Goals as goal

pub returns-in-None : goal.returns-in-None
returns-in-None c =
    let l = items_left c.args.items in
    let e : c.fold.result ≡ fold asked None l =
    fold_from_yields_List _ asked None c.fold.result c.fold.ensures.ran (YieldsList-from_first (λ x. x) items_left l refl) (λ a x b q k. search rules) in
    ap number (sym c.in-None.is ∙ e) ∙ rule_asked l

pub returns-in-Some : goal.returns-in-Some
returns-in-Some c =
    let l = items_left c.args.items in
    let e : c.fold.result ≡ fold asked None l =
    fold_from_yields_List _ asked None c.fold.result c.fold.ensures.ran (YieldsList-from_first (λ x. x) items_left l refl) (λ a x b q k. search rules) in
    c.mask_of.ensures ∙ ap number (sym c.in-Some.is ∙ e) ∙ rule_asked l
