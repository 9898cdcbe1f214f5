-- Answers of those who look for no name, one after another.
use Prim.Native.Nat.{ℕ}
use mathlib.Core.Bool.{true, false}
use mathlib.Core.List.{List, [], ◌∷◌}
use mathlib.Core.Path.{◌≡◌, refl, ◌∙◌}
use Rattle.names.specs.Read.{Read, none}
use Rattle.names.specs.Names.{word}
use Rattle.names.specs.declared.Manner.{Manner}
use Rattle.names.proofs.Laws.{or_none}
use Rattle.records.specs.Words.{Placed}
use Rattle.items.specs.Kinds.{item_of, item_in}
use Rattle.items.specs.Sets.{has_kind, picked, yearly, numbered, kinds_of}
use Rattle.items.specs.Seen.{with_kind}
use Rattle.items.specs.declared.Kind.{Kind}
use Rattle.items.proofs.Picks.{pick_yes, pick_no, pick_then, item_unnamed}
use Rattle.items.proofs.Sure.{Sure, sure_or}

module _ (m : Manner) (s : List ℕ) (i set : ℕ) where
  module _ (k : Kind) where
    -- a kind alone
    pub one_wanted : has_kind set k ≡ true → item_in m (picked set (k ∷ [])) s i ≡ with_kind k (item_of m k s i)
    unfolding picked item_in
    one_wanted e = pick_yes m s i set k [] e ∙ or_none s i (with_kind k (item_of m k s i)) (item_in m (picked set [])) refl

    pub one_unwanted : has_kind set k ≡ false → item_in m (picked set (k ∷ [])) s i ≡ none
    unfolding picked item_in
    one_unwanted e = pick_no m s i set k [] e

    -- that kind, and then others: they are tried where it finds none
    pub one_first : (ks : List Kind) {r : Read (Placed × Kind)} → item_in m (picked set (k ∷ [])) s i ≡ r → Sure r → item_in m (picked set (k ∷ ks)) s i ≡ r
    one_first ks {r} e h = pick_then m s i set (k ∷ []) ks ∙ rw e (sure_or s i r (item_in m (picked set ks)) h)

    pub one_after : (ks : List Kind) → item_in m (picked set (k ∷ [])) s i ≡ none → item_in m (picked set (k ∷ ks)) s i ≡ item_in m (picked set ks) s i
    one_after ks e = pick_then m s i set (k ∷ []) ks ∙ rw e

  -- where no name stands: those that begin with a year, and then those that begin with another number
  module _ (w : word s i ≡ none) where
    pub yearly_first : {r : Read (Placed × Kind)} → item_in m (picked set yearly) s i ≡ r → Sure r → item_in m (kinds_of set) s i ≡ r
    yearly_first {r} e h = item_unnamed m s i w set ∙ rw e (sure_or s i r (item_in m (picked set numbered)) h)

    pub yearly_after : item_in m (picked set yearly) s i ≡ none → item_in m (kinds_of set) s i ≡ item_in m (picked set numbered) s i
    yearly_after e = item_unnamed m s i w set ∙ rw e

-- a kind alone, and then others
pub ruleset alone = (one_wanted, one_unwanted)

pub ruleset in_turn = (alone, one_first, one_after)
