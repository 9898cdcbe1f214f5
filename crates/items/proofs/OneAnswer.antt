-- No second answer meets a promise.
use Prim.Native.Nat.{ℕ}
use mathlib.Core.List.{List}
use mathlib.Core.Path.{◌≡◌, refl, ap}
use Rattle.std.specs.Prelude.{Result, Ok, Err}
use Rattle.names.specs.Refusals.{number}
use Rattle.names.specs.Seen.{numbers}
use Rattle.names.specs.declared.Manner.{Manner}
use Rattle.names.specs.declared.Word.{Word}
use Rattle.names.specs.declared.refusals.Reason.{Reason}
use Rattle.names.specs.declared.refusals.Refusal.{Refusal}
use Rattle.records.specs.Words.{Placed}
use Rattle.names.proofs.OneAnswer.{kind_one_answer}
use Rattle.records.proofs.OneAnswer.{reason_one}
use Rattle.items.specs.Seen.{placed, Standing}
use Rattle.items.specs.declared.Kind.{Kind}
use Rattle.items.specs.declared.PlacedItem.{PlacedItem}
use Rattle.items.specs.declared.Stands.{Stands}
use Rattle.items.specs.declared.Stands.TheVariants.{Item, Name, Nothing}

-- an item at its place is known by what it says
pub placed_one : (x y : PlacedItem) → placed x ≡ placed y → x ≡ y
placed_one x y e = rw (ap (λ (z : Placed × Kind). z.0.0) e, ap (λ (z : Placed × Kind). z.0.1) e, ap (λ (z : Placed × Kind). z.1) e)

-- and a name
name_one : (v w : Word) → numbers v ≡ numbers w → v ≡ w
name_one v w e = rw (kind_one_answer v.kind w.kind (ap (λ (n : ℕ × ℕ). n.0) e), ap (λ (n : ℕ × ℕ). n.1) e)

-- two answers about one place are one
pub standing_one_answer : (m : Manner) (ks : List Kind) (s : List ℕ) (i : ℕ) (x y : Result Stands (Refusal Reason)) → Standing m ks s i x → Standing m ks s i y → x ≡ y
standing_one_answer m ks s i (Ok (Item a c)) (Ok (Item b d)) e f = let h : c.at ≡ d.at = cc in let z : placed a ≡ placed b = cc in rw (placed_one a b z, h)
standing_one_answer m ks s i (Ok (Item a c)) (Ok (Name v d)) e f = cc
standing_one_answer m ks s i (Ok (Item a c)) (Ok Nothing) e f = cc
standing_one_answer m ks s i (Ok (Item a c)) (Err r) e f = cc
standing_one_answer m ks s i (Ok (Name v c)) (Ok (Item b d)) e f = cc
standing_one_answer m ks s i (Ok (Name v c)) (Ok (Name w d)) e f = let h : c.at ≡ d.at = cc in let z : numbers v ≡ numbers w = cc in rw (name_one v w z, h)
standing_one_answer m ks s i (Ok (Name v c)) (Ok Nothing) e f = cc
standing_one_answer m ks s i (Ok (Name v c)) (Err r) e f = cc
standing_one_answer m ks s i (Ok Nothing) (Ok (Item b d)) e f = cc
standing_one_answer m ks s i (Ok Nothing) (Ok (Name w d)) e f = cc
standing_one_answer m ks s i (Ok Nothing) (Ok Nothing) e f = refl
standing_one_answer m ks s i (Ok Nothing) (Err r) e f = cc
standing_one_answer m ks s i (Err r) (Ok (Item b d)) e f = cc
standing_one_answer m ks s i (Err r) (Ok (Name w d)) e f = cc
standing_one_answer m ks s i (Err r) (Ok Nothing) e f = cc
standing_one_answer m ks s i (Err r) (Err q) e f = let p : r.place ≡ q.place = cc in let n : number r.reason ≡ number q.reason = cc in rw (reason_one r.reason q.reason n, p)
