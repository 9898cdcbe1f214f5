use Prim.Native.Nat.{ℕ}
use mathlib.Core.List.{List}
use mathlib.Core.Path.{◌≡◌, refl, sym}
use borrow.Author.Tests.{ne_eqb}
use lib.Dec.{eqb}
use lib.ListN.{get_or}
use Rattle.names.specs.Read.{none}
use Rattle.names.specs.Texts.{byte}
use Rattle.names.proofs.Laws.{one_is}
use Rattle.days.specs.Weekdays.{Weekday, again, plain, bracketed, until_weekday, with_entries, narrow_after, weekday_meaning}
use Rattle.days.proofs.weekdays.narrow_after.Goals as goal
use Rattle.days.proofs.weekdays.narrow_after.Goals.{then-byte-eq91+in_default-with_entries, else-byte-eq91}

-- where no bracket stands, no entries do
no_entries : (first : Weekday) (s : List ℕ) (i : ℕ) {b : ℕ} → b ≡ get_or s i 0 → (b ≡ 91 → ⊥) → with_entries first s i ≡ none
unfolding with_entries bracketed byte
no_entries first s i e h = rw (one_is (eqb 91) refl s i e (ne_eqb 91 _ (λ q. h (sym q))))

pub returns : goal.returns
unfolding narrow_after until_weekday
returns c =
    let first : Weekday = (c.args.first.value, c.args.first.odd) in
    let marks : with_entries first c.args.s.now c.args.c.at ≡ none =
    elim c.if-byte-eq91.branch [ then-byte-eq91+in_default-with_entries w ↦ w.in_default-with_entries.ensures | else-byte-eq91 w ↦ no_entries _ _ _ c.byte.ensures w.if-byte-eq91.false ] in
    let alone : c.plain-2.result ≡ weekday_meaning (plain first (again first)) = cc in
    rw (c.in_default.ensures.is, marks, alone)
