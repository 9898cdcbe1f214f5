-- What stands before damage of any kind is read as before: a part's answer depends on the bytes up to its end, and where it ends on those up to its `;`.
use Prim.Native.Nat.{ℕ, suc, ◌≤◌, ◌<◌}
use mathlib.Core.List.{List, [], ◌∷◌, ◌++◌, append_assoc}
use mathlib.Core.Bool.{true}
use mathlib.Core.Path.{◌≡◌, sym, ap, ◌∙◌}
use native.Mathlib.Omega.{arith}
use borrow.Author.Tests.{lt-ltb, le-ltb}
use lib.ListN.{length, take, length-append}
use lib.Seq.{take-append-le}
use Rattle.names.specs.declared.Manner.{Manner}
use Rattle.lent_slots.specs.Tables.{as_words, as_bytes}
use Rattle.sheet.specs.Sheets.{written_as, words_in}
use Rattle.parts.specs.Parts.{begins, part_end}
use Rattle.sheet.specs.PartReadings.{with_next, part_by, part_reading_by, part_reading_bytes_by}
use Rattle.parts.proofs.PartLaws.{begins_earlier, end_earlier}
use Rattle.sheet.specs.declared.PartAnswer.{PartAnswer}
use Rattle.c_calls.specs.Calls.{part_numbers, part_call_by}
use Rattle.demands.specs.Before.{Damaged, SameBeginnings, BeforeDamage, BeforeCalls}

module _ (u b c : List ℕ) (d : Damaged u b c) where
  -- the common beginning, the semicolon included
  abbrev common : List ℕ
  common = u ++ (59 ∷ [])

  old : u ++ 59 ∷ b ≡ common ++ b
  old = sym (append_assoc u (59 ∷ []) b)

  new : u ++ 59 ∷ c ≡ common ++ c
  new = sym (append_assoc u (59 ∷ []) c)

  one_more : length common ≡ suc (length u)
  one_more = simp length-append (omega arith)

  begin_same : (p : ℕ) → p ≤ suc (length u) → begins (u ++ 59 ∷ c) p ≡ begins (u ++ 59 ∷ b) p
  begin_same p h = let k : p ≤ length common = omega (arith, one_more) in rw (old, new) (begins_earlier common c p k ∙ sym (begins_earlier common b p k))

  end_same : (p : ℕ) → part_end (u ++ 59 ∷ b) p ≤ length u → part_end (u ++ 59 ∷ c) p ≡ part_end (u ++ 59 ∷ b) p
  end_same p h =
      let k : part_end (common ++ b) p ≤ length u = rw old at h in
      rw (old, new) (end_earlier common b c p (omega (arith, one_more, k)))

  module _ (m : Manner) (p : ℕ) (begun : begins (u ++ 59 ∷ b) p ≡ true) (h : part_end (u ++ 59 ∷ b) p ≤ length u) where
    -- a part begins no later than it ends
    before_end : p ≤ suc (length u)
    unfolding part_end
    before_end = omega (arith, h)

    -- the text up to the part's end, and that something stands after it
    upto : (x : List ℕ) → take (part_end (u ++ 59 ∷ b) p) (u ++ 59 ∷ x) ≡ take (part_end (u ++ 59 ∷ b) p) u
    upto x = take-append-le (part_end (u ++ 59 ∷ b) p) u (59 ∷ x) h

    goes_on_lem : (x : List ℕ) → part_end (u ++ 59 ∷ b) p < length (u ++ 59 ∷ x)
    goes_on_lem x = simp length-append (omega (arith, h))

    part_same : (n : ℕ) → part_by m (u ++ 59 ∷ c) p n ≡ part_by m (u ++ 59 ∷ b) p n
    unfolding part_by with_next
    part_same n =
        rw (
          le-ltb 4096 (length (u ++ 59 ∷ c)) d.new_fits,
          le-ltb 4096 (length (u ++ 59 ∷ b)) d.old_fits,
          begin_same p before_end ∙ begun,
          begun,
          end_same p h,
          upto c,
          upto b,
          lt-ltb (part_end (u ++ 59 ∷ b) p) (length (u ++ 59 ∷ c)) (goes_on_lem c),
          lt-ltb (part_end (u ++ 59 ∷ b) p) (length (u ++ 59 ∷ b)) (goes_on_lem b),
        )

pub same_beginnings : SameBeginnings
same_beginnings u b c d p h = begin_same u b c d p h

pub before_damage : BeforeDamage
before_damage m u b c d p n begun h = (end_same u b c d p h, part_same u b c d m p begun h n)

pub before_calls : BeforeCalls
unfolding part_reading_by part_reading_bytes_by part_call_by
before_calls m u b c d p begun h =
    let same = part_same u b c d m p begun h in (
      λ t. ap (written_as as_words t) (same (length t)),
      λ t. ap (written_as as_bytes t) (same (words_in (length t))),
      λ t. ap (λ (x : PartAnswer × List ℕ). (part_numbers x.0, x.1)) (ap (written_as as_bytes t) (same (words_in (length t)))),
    )
