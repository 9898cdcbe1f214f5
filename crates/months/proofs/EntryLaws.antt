-- Entries one after the other in lent bytes.
use Prim.Native.Nat.{ℕ, suc, ◌+◌, ◌*◌, ◌-◌, ◌≤◌, ◌<◌}
use native.Mathlib.Numerals.{add-one}
use native.Mathlib.Omega.{arith}
use borrow.Author.Tests.{lt-ltb, le-ltb, ltb-true, ltb-false}
use mathlib.Core.Bool.{Bool, true, false}
use mathlib.Core.List.{List, [], ◌∷◌}
use mathlib.Core.Path.{◌≡◌, refl, sym, ap, ◌∙◌}
use lib.Dec.{ltb}
use lib.ListN.{length}
use lib.Seq.{sets, length-sets}
use Rattle.lent_slots.specs.Bytes.{little_endian}
use Rattle.lent_slots.specs.Slots.{number_from}
use Rattle.table_rules.specs.Rules.{Rule}
use Rattle.table_rules.specs.Numbers.{written}
use Rattle.months.specs.Months.{rule_mask}
use Rattle.months.specs.Entries.{wrap, entries_of, moved_head, heads_moved}

-- an entry's two numbers are written
pub entry_next : (b : List ℕ) (i x y : ℕ) (zs : List ℕ) →
    written b (i * 2) (x ∷ y ∷ zs) ≡ written (sets (sets b (i * 8) (little_endian x)) (i * 8 + 4) (little_endian y)) ((i + 1) * 2) zs
unfolding written
entry_next b i x y zs =
    let d : i * 2 * 4 ≡ i * 8 = omega arith in
    let e : suc (i * 2) * 4 ≡ i * 8 + 4 = omega arith in
    let f : suc (suc (i * 2)) ≡ (i + 1) * 2 = omega arith in
    ap (λ p. written (sets (sets b p (little_endian x)) (suc (i * 2) * 4) (little_endian y)) (suc (suc (i * 2))) zs) d
    ∙ ap (λ p. written (sets (sets b (i * 8) (little_endian x)) p (little_endian y)) (suc (suc (i * 2))) zs) e
    ∙ ap (λ k. written (sets (sets b (i * 8) (little_endian x)) (i * 8 + 4) (little_endian y)) k zs) f

pub rule_entry : (base : ℕ) (r : Rule) (rs : List Rule) → entries_of base (r ∷ rs) ≡ wrap (base + r.head) ∷ rule_mask r.items ∷ entries_of base rs
unfolding entries_of
rule_entry base r rs = refl

-- a rule's entry is written
pub entry_more : (base : ℕ) (b : List ℕ) (i j : ℕ) (r : Rule) (rs : List Rule) → j ≡ i + 1 →
    written b (i * 2) (entries_of base (r ∷ rs)) ≡ written (sets (sets b (i * 8) (little_endian (wrap (base + r.head)))) (i * 8 + 4) (little_endian (rule_mask r.items))) (j * 2) (entries_of base rs)
entry_more base b i j r rs e =
    ap (written b (i * 2)) (rule_entry base r rs) ∙ entry_next b i (wrap (base + r.head)) (rule_mask r.items) (entries_of base rs)
    ∙ ap (λ k. written (sets (sets b (i * 8) (little_endian (wrap (base + r.head)))) (i * 8 + 4) (little_endian (rule_mask r.items))) (k * 2) (entries_of base rs)) (sym e)

pub no_entry : (base : ℕ) (b : List ℕ) (k : ℕ) → written b k (entries_of base []) ≡ b
unfolding entries_of written
no_entry base b k = refl

pub two_sets : (b : List ℕ) (i j x y : ℕ) → length (sets (sets b i (little_endian x)) j (little_endian y)) ≡ length b
two_sets b i j x y = length-sets (sets b i (little_endian x)) j (little_endian y) ∙ length-sets b i (little_endian x)

-- ---- heads are moved

pub moved_next_lem : (old new : ℕ) (b : List ℕ) (i n : ℕ) → i < n →
    heads_moved old new b i (n - i) ≡ heads_moved old new (sets b (i * 8) (little_endian (moved_head old new (number_from b (i * 8))))) (i + 1) (n - (i + 1))
unfolding heads_moved
moved_next_lem old new b i n h =
    let e : n - i ≡ suc (n - (i + 1)) = omega arith in
    ap (heads_moved old new b i) e ∙ ap (λ k. heads_moved old new (sets b (i * 8) (little_endian (moved_head old new (number_from b (i * 8))))) k (n - (i + 1))) (sym (add-one i))

pub moved_end : (old new : ℕ) (b : List ℕ) (i n : ℕ) → n ≤ i → heads_moved old new b i (n - i) ≡ b
unfolding heads_moved
moved_end old new b i n h = let e : n - i ≡ 0 = omega arith in ap (heads_moved old new b i) e

-- a sum that passes a number, without the sum
pub passing : (a n f : ℕ) → n ≤ a → ltb (a - n) f ≡ ltb a (f + n)
passing a n f h = go (ltb (a - n) f) refl
  where
    go : (t : Bool) → ltb (a - n) f ≡ t → t ≡ ltb a (f + n)
    go true e = let g : a - n < f = ltb-true (a - n) f e in sym (lt-ltb a (f + n) (omega arith))
    go false e = let g : f ≤ a - n = ltb-false (a - n) f e in sym (le-ltb a (f + n) (omega arith))
