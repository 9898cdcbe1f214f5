-- An item depends on nothing before its place and nothing from a `;` outside quotes on.
use Rattle.std.specs.Prelude.{Ok, Err}
use Prim.Native.Nat.{ℕ, ◌+◌}
use mathlib.Core.List.{List}
use mathlib.Core.Bool.{false}
use lib.ListN.{length}
use Rattle.names.specs.Read.{Reader}
use Rattle.names.specs.Refusals.{number}
use Rattle.names.specs.declared.Manner.{Manner}
use Rattle.names.specs.declared.Manner.TheVariants.{Second}
use Rattle.names.proofs.Local.{Number, Stop, keep, LocalFrom, LocalIn, pure_local, refuse_local, here_then, then_local}
use Rattle.records.specs.Items.{Meant, judged, meant, item}
use Rattle.records.specs.declared.Item.{Item}

-- in the manner e, reads alike where its text stands after u, and takes k bytes at least
abbrev pub AlikeIn : {A : Type 0} → Manner → List ℕ → ℕ → Reader A → Type 0
AlikeIn e u k m = LocalIn e Stop keep u false false k m m

-- so in every manner
abbrev pub Alike : {A : Type 0} → List ℕ → ℕ → Reader A → Type 0
Alike u k m = AlikeIn Second u k m

-- what refuses has a refusal's number, in the manner e and in every manner
abbrev pub RefusesIn : Manner → Meant → Type 0
RefusesIn e (Ok a) = Unit {0}
RefusesIn e (Err k) = Number e (number k)

abbrev pub Refuses : Meant → Type 0
Refuses x = RefusesIn Second x

-- a judgement, of an item that begins at p
pub judged_alike : {e : Manner} {u : List ℕ} (p : ℕ) (x : Meant) → RefusesIn e x → LocalFrom e p Stop keep u false false 0 (judged (length u + p) x) (judged p x)
judged_alike p (Ok a) h = pure_local a
judged_alike p (Err k) h = refuse_local (number k) p h

module _ {R : Type 0} {e : Manner} {u : List ℕ} {k : ℕ} {shape : Reader R} (S : AlikeIn e u k shape) (meaning : R → Meant) (refuses : (r : R) → RefusesIn e (meaning r)) where
  -- an item that begins at p
  pub meant_alike : (p : ℕ) → LocalFrom e p Stop keep u false false k (meant (length u + p) shape meaning) (meant p shape meaning)
  meant_alike p = then_local S (λ r. judged_alike p (meaning r) (refuses r))

  -- an item
  pub item_alike : AlikeIn e u k (item shape meaning)
  item_alike =
      let f : ℕ → Reader Item = λ p. meant p shape meaning in
      here_then f f meant_alike
