-- Which bytes a note is, for each way its numbers can be.
use Rattle.std.specs.Prelude.{if◌then◌else◌, Option, Some, None, Result, Ok, Err}
use Rattle.std.specs.Int.{FitsUnsignedBits}
use Rattle.std.specs.Result.{OkIff, result_ok}
use Prim.Native.Nat.{ℕ, ◌+◌, ◌-◌, ◌≤◌, ◌<◌}
use mathlib.Core.List.{List}
use mathlib.Core.Bool.{Bool, true, false, true≢false}
use mathlib.Core.Path.{◌≡◌, refl, sym, ap, ◌∙◌, subst}
use native.Mathlib.Omega.{arith}
use native.Mathlib.Decide.{dec_lt}
use native.Mathlib.Nat.{add_comm}
use mir.Syntax.{w32}
use mir.Val.{SFits, of_z, to_z}
use mir.Facts.{to_z-of_z}
use lib.IntN.{ℤ, pos, negsuc, nat_abs}
use lib.Dec.{eqb, leb}
use lib.ListN.{length, take, drop}
use borrow.Author.Tests.{ne_eqb, le-leb, lt-leb}
use Rattle.notes.specs.declared.NotePart.{NotePart}
use Rattle.notes.specs.declared.NotePart.TheVariants as part
use Rattle.notes.specs.Notes.{Bytes, comment, note_part, numbers_of, bytes_of, note_of, CutFrom}

-- what the machine reads back is 0 where the number is
pub zero_is : (l : ℤ) → to_z w32 (of_z w32 l) ≡ l → of_z w32 l ≡ 0 → l ≡ pos 0
zero_is l e z = sym e ∙ ap (to_z w32) z

-- and the number itself is not where what is read is not
pub zero_not : (l : ℤ) → (of_z w32 l ≡ 0 → ⊥) → l ≡ pos 0 → ⊥
zero_not l h e = h (ap (of_z w32) e)

-- ---- a number that is not below 0

abbrev pub size_of : ℤ → Option ℕ
size_of (pos n) = Some n
size_of (negsuc n) = None

-- the code's conversion tells it
pub size_is : {E : Type 0} (z : ℤ) → SFits w32 z → (r : Result ℕ E) → OkIff r (FitsUnsignedBits 64 (to_z w32 (of_z w32 z))) (nat_abs (to_z w32 (of_z w32 z))) → result_ok r ≡ size_of z
size_is z f r h = told z f r (rw (to_z-of_z f) at h)
  where
    told : {E : Type 0} (z : ℤ) → SFits w32 z → (r : Result ℕ E) → OkIff r (FitsUnsignedBits 64 z) (nat_abs z) → result_ok r ≡ size_of z
    told (pos n) f (Ok x) h = ap Some h.1
    told (pos n) f (Err e) h = let k : n < 2147483648 = f.sfits in absurd (h (omega arith))
    told (negsuc n) f (Ok x) h = absurd h.0
    told (negsuc n) f (Err e) h = refl

-- ---- where a comment stands

module _ (sheet : ℕ) where
  pub no_start : (a l : ℤ) → None ≡ size_of a → None ≡ comment sheet a l
  unfolding comment
  no_start (pos a) l e = cc
  no_start (negsuc a) (pos l) e = refl
  no_start (negsuc a) (negsuc l) e = refl

  pub no_length : (a l : ℤ) → None ≡ size_of l → None ≡ comment sheet a l
  unfolding comment
  no_length a (pos l) e = cc
  no_length (pos a) (negsuc l) e = refl
  no_length (negsuc a) (negsuc l) e = refl

  module _ {x y : ℕ} where
    sized : (a l : ℤ) → Some x ≡ size_of a → Some y ≡ size_of l → comment sheet a l ≡ (if leb (x + y) sheet then Some (x, x + y) else None)
    unfolding comment
    sized (pos a) (pos l) d e = let p : x ≡ a = cc in let q : y ≡ l = cc in rw (p, q)
    sized (negsuc a) l d e = cc
    sized (pos a) (negsuc l) d e = cc

    pub stands : (a l : ℤ) → Some x ≡ size_of a → Some y ≡ size_of l → x + y ≤ sheet → Some (x, x + y) ≡ comment sheet a l
    stands a l d e k = rw (sized a l d e, le-leb _ _ k)

    pub not_stands : (a l : ℤ) → Some x ≡ size_of a → Some y ≡ size_of l → sheet < x + y → None ≡ comment sheet a l
    not_stands a l d e k = rw (sized a l d e, lt-leb _ _ k)

module _ (sheet note : ℕ) where
  -- a length of 0
  pub noted_whole : (a l : ℤ) → l ≡ pos 0 → (false, (0, note)) ≡ note_part sheet note a l
  unfolding note_part
  noted_whole (pos a) l e = rw e
  noted_whole (negsuc a) l e = rw e

  -- any other: the comment where it stands in the sheet, or else the empty part
  noted : Option (ℕ × ℕ) → Bool × (ℕ × ℕ)
  noted (Some p) = (true, p)
  noted None = (false, (0, 0))

  noted_other : (a l : ℤ) → (l ≡ pos 0 → ⊥) → note_part sheet note a l ≡ noted (comment sheet a l)
  unfolding note_part comment noted
  noted_other (pos a) (pos l) h = rw (ne_eqb l 0 (λ z. h (ap pos z))) (go (leb (a + l) sheet))
    where
      go : (t : Bool) → (if t then (true, (a, a + l)) else (false, (0, 0))) ≡ noted (if t then Some (a, a + l) else None)
      go true = refl
      go false = refl
  noted_other (negsuc a) (pos l) h = rw (ne_eqb l 0 (λ z. h (ap pos z)))
  noted_other (pos a) (negsuc l) h = refl
  noted_other (negsuc a) (negsuc l) h = refl

  pub noted_comment : (a l : ℤ) (p : ℕ × ℕ) → (l ≡ pos 0 → ⊥) → Some p ≡ comment sheet a l → (true, p) ≡ note_part sheet note a l
  unfolding noted
  noted_comment a l p h e = rw (noted_other a l h, ← e)

  pub noted_empty : (a l : ℤ) → (l ≡ pos 0 → ⊥) → None ≡ comment sheet a l → (false, (0, 0)) ≡ note_part sheet note a l
  unfolding noted
  noted_empty a l h e = rw (noted_other a l h, ← e)

-- a part of so many bytes
abbrev Inside : ℕ → ℕ → Bool × (ℕ × ℕ) → Type 0
Inside sheet note (true, (a, e)) = (a ≤ e) × (e ≤ sheet)
Inside sheet note (false, (a, e)) = (a ≤ e) × (e ≤ note)

-- the note's numbers stand in its bytes
inside : (sheet note : ℕ) (a l : ℤ) → Inside sheet note (note_part sheet note a l)
unfolding note_part
inside sheet note (pos a) (pos l) = go (eqb l 0) (dec_lt sheet (a + l))
  where
    go : (b : Bool) → Dec (sheet < a + l) → Inside sheet note (if b then (false, (0, note)) else if leb (a + l) sheet then (true, (a, a + l)) else (false, (0, 0)))
    go true q = (omega arith, omega arith)
    go false (yes q) = rw (lt-leb _ _ q) (omega arith, omega arith)
    go false (no q) = let k : a + l ≤ sheet = omega arith in rw (le-leb _ _ k) (omega arith, omega arith)
inside sheet note (negsuc a) (pos l) = go (eqb l 0)
  where
    go : (b : Bool) → Inside sheet note (if b then (false, (0, note)) else (false, (0, 0)))
    go true = (omega arith, omega arith)
    go false = (omega arith, omega arith)
inside sheet note (pos a) (negsuc l) = (omega arith, omega arith)
inside sheet note (negsuc a) (negsuc l) = (omega arith, omega arith)

-- the numbers as the machine reads them back
pub as_read : (sheet note : ℕ) (a l : ℤ) {x : Bool × (ℕ × ℕ)} → SFits w32 a → SFits w32 l → x ≡ note_part sheet note (to_z w32 (of_z w32 a)) (to_z w32 (of_z w32 l)) → x ≡ note_part sheet note a l
as_read sheet note a l f g e = rw (to_z-of_z f, to_z-of_z g) at e

-- what the code says of its numbers
abbrev pub Says : Bytes → Bytes → ℤ → ℤ → Bool × (ℕ × ℕ) → Type 0
Says sheet note a l x = x ≡ note_part (length sheet.now) (length note.now) (to_z w32 (of_z w32 a)) (to_z w32 (of_z w32 l))

module _ (sheet note : Bytes) (a l : ℤ) (f : SFits w32 a) (g : SFits w32 l) where
  within : {x : Bool × (ℕ × ℕ)} → Says sheet note a l x → Inside (length sheet.now) (length note.now) x
  within e = subst (Inside (length sheet.now) (length note.now)) (sym (as_read _ _ a l f g e)) (inside (length sheet.now) (length note.now) a l)

  -- they stand in the sheet
  pub in_sheet : {from to : ℕ} → Says sheet note a l (true, (from, to)) → (from ≤ to) × (to ≤ length sheet.now)
  in_sheet e = within e

  -- or in the note
  pub in_note : {from to : ℕ} → Says sheet note a l (false, (from, to)) → (from ≤ to) × (to ≤ length note.now)
  in_note e = within e

  -- and the bytes that are cut out by them are the note
  cut : {r : Bool × (ℕ × ℕ)} {p : ℕ × ℕ} {x : List ℕ} → Says sheet note a l r → CutFrom (bytes_of sheet note r) p x → CutFrom (note_of sheet note a l) p x
  cut {p = p} {x} e h = subst (λ (r : Bool × (ℕ × ℕ)). CutFrom (bytes_of sheet note r) p x) (as_read _ _ a l f g e) h

  pub cut_sheet : {from to : ℕ} → Says sheet note a l (true, (from, to)) → CutFrom (note_of sheet note a l) (sheet.ref_ptr.0, from + sheet.ref_ptr.1) (take (to - from) (drop from sheet.now))
  cut_sheet {from} e = cut e (ap (λ (i : ℕ). (sheet.ref_ptr.0, i)) (add_comm from sheet.ref_ptr.1), refl)

  pub cut_note : {from to : ℕ} → Says sheet note a l (false, (from, to)) → CutFrom (note_of sheet note a l) (note.ref_ptr.0, from + note.ref_ptr.1) (take (to - from) (drop from note.now))
  cut_note {from} e = cut e (ap (λ (i : ℕ). (note.ref_ptr.0, i)) (add_comm from note.ref_ptr.1), refl)

-- parts of the same numbers are the same part
pub same_part : (x y : NotePart) → numbers_of x ≡ numbers_of y → x ≡ y
same_part (part.Sheet a b) (part.Sheet c d) e = ap (λ (n : Bool × (ℕ × ℕ)). part.Sheet n.1.0 n.1.1) e
same_part (part.Sheet a b) (part.Standing c d) e = absurd (true≢false (ap (λ (n : Bool × (ℕ × ℕ)). n.0) e))
same_part (part.Standing a b) (part.Sheet c d) e = absurd (true≢false (sym (ap (λ (n : Bool × (ℕ × ℕ)). n.0) e)))
same_part (part.Standing a b) (part.Standing c d) e = ap (λ (n : Bool × (ℕ × ℕ)). part.Standing n.1.0 n.1.1) e
