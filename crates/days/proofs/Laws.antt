-- What the code goes by: entries one after another.
use Prim.Native.Nat.{ℕ}
use mathlib.Core.List.{List, [], ◌∷◌}
use mathlib.Core.Path.{◌≡◌, refl}
use Rattle.names.specs.Read.{Read, got, none, refused, follow, nothing, pure, map}
use Rattle.names.specs.Chain.{many}
use Rattle.names.proofs.Local.{takes}
use Rattle.names.proofs.Skips.{many_is}
use Rattle.days.specs.Entries.{entry, next_entry, no_marks, marked, marked_all, entries}
use Rattle.days.specs.declared.Entry.{Entry}
use Rattle.days.specs.declared.Marks.{Marks}
use Rattle.days.proofs.Cut.{next_entry_alike}

module _ (s : List ℕ) (i : ℕ) where
  -- the first entry, and those after it
  pub marked_first : {e : Entry} {j : ℕ} {n m : Marks} → entry s i ≡ got e j → n ≡ no_marks → m ≡ marked n e → entries s i ≡ map (marked_all m) (many next_entry) s j
  unfolding entries
  marked_first h p q = rw (h, q, p)

  -- no entry
  pub marked_none : entry s i ≡ none → entries s i ≡ none
  unfolding entries
  marked_none h = rw h

  -- an entry more
  pub marked_more : (n : Marks) {e : Entry} {j : ℕ} {m : Marks} → next_entry s i ≡ got e j → m ≡ marked n e → map (marked_all n) (many next_entry) s i ≡ map (marked_all m) (many next_entry) s j
  unfolding marked_all
  marked_more n {e} {j} h q = rw (many_is next_entry (takes (next_entry_alike {u = []})) s i, h, q) (go (many next_entry s j))
    where
      go : (r : Read (List Entry)) → follow s i (follow s j r (λ es. pure (e ∷ es)) nothing) (λ es. pure (marked_all n es)) nothing ≡ follow s j r (λ es. pure (marked_all (marked n e) es)) nothing
      go (got es t) = refl
      go none = refl
      go (refused k p) = refl

  -- no entry more
  pub marked_done : (n : Marks) → next_entry s i ≡ none → map (marked_all n) (many next_entry) s i ≡ got n i
  unfolding marked_all
  marked_done n h = rw (many_is next_entry (takes (next_entry_alike {u = []})) s i, h)
