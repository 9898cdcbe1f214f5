use Rattle.std.proofs.Common.{◌≡◌, List, [], ◌∷◌, true, refl, sym, ◌∙◌, rules}
use Rattle.std.specs.List.{fold}
use Rattle.std.proofs.lemmas.Iterator.Consumers.{fold_from_yields_List, YieldsList-from_first}
use Rattle.records.specs.declared.Item.{Item}
use Rattle.touched.specs.Founds.{with_item}
use Rattle.touched.specs.Walk.{items_left, is_none_left}
use Rattle.touched.proofs.DayLaws.{rule_over}
use Rattle.touched.proofs.days.rule_touch.Goals as goal

none_left : (l : List Item) → is_none_left l ≡ true → l ≡ []
none_left [] e = refl
none_left (a ∷ l) e = cc

pub returns-then-is_over : goal.returns-then-is_over
returns-then-is_over c =
    let l : items_left c.args.items ≡ [] = none_left (items_left c.args.items) (sym c.is_over.ensures ∙ c.if-is_over.true) in
    rw l (rule_over c.args.day [])

pub returns : goal.returns
returns c =
    let e : c.fold.result ≡ fold (with_item c.args.day) c.begun.result (items_left c.args.items) =
    fold_from_yields_List _ (with_item c.args.day) c.begun.result c.fold.result c.fold.ensures.ran (YieldsList-from_first (λ x. x) items_left (items_left c.args.items) refl) (λ a x b q k. search rules) in
    rw (c.ended.ensures, e, c.begun.ensures) (rule_over c.args.day (items_left c.args.items))
