-- How a name is written: its letters one by one, and that it depends on nothing but its own bytes.
use Prim.Native.Nat.{ℕ, suc, ◌+◌, ◌-◌, ◌≤◌, ◌<◌}
use native.Mathlib.Omega.{arith}
use native.Mathlib.Nat.{suc-add, zero-add}
use mathlib.Core.Bool.{Bool, false, ◌&&◌}
use mathlib.Core.List.{List, [], ◌∷◌, ◌++◌, append-nil}
use mathlib.Core.Path.{◌≡◌, refl, sym, ap, ◌∙◌}
use Rattle.std.specs.List.{list_all}
use Rattle.std.proofs.lemmas.List.{drop-take}
use lib.ListN.{length, get_or, take, drop}
use lib.Seq.{slice, slice-cons, take-append-le}
use Rattle.names.specs.Read.{Reader, got, none, pure, ◌>>=◌}
use Rattle.names.specs.Names.{Word, word, name}
use Rattle.names.specs.declared.Manner.{Manner}
use Rattle.names.specs.Spellings.{is_small, all_small, well_begun, well_written, odd, odd_from, named, spelled}
use Rattle.names.proofs.Local.{Tail, Stop, Follows, stop_end, stop_at, At, keep, LocalFrom, Local, pure_local, then_local, here_then}
use Rattle.names.proofs.NameCut.{word_local, name_local}

-- ---- letters

-- the bytes from one place to another, as the code cuts them out
pub cut_slice : (s : List ℕ) (i t : ℕ) → i ≤ t → take (t - i) (drop i s) ≡ slice i t s
cut_slice s i t h = let e : i + (t - i) ≡ t = omega arith in sym (drop-take i (t - i) s) ∙ ap (λ k. slice i k s) e

-- small letters, in the library's word
pub all_small_lem : (xs : List ℕ) → all_small xs ≡ list_all is_small xs
unfolding all_small
all_small_lem [] = refl
all_small_lem (x ∷ xs) = rw (all_small_lem xs)

module _ (s : List ℕ) (i t : ℕ) (h : i < t) (k : t ≤ length s) where
  -- a name is written as its first letter and its others are
  pub written_first : (kind : ℕ) → well_written kind (slice i t s) ≡ (well_begun kind (get_or s i 0) && all_small (slice (suc i) t s))
  unfolding well_written
  written_first kind = rw (slice-cons i t s 0 h k)

-- ---- the text s stands after u and before v

-- bytes of the text that stands after u
slice_after : (u s : List ℕ) (p i : ℕ) → slice (length u + p) (length u + i) (u ++ s) ≡ slice p i s
slice_after [] s p i = rw (zero-add p, zero-add i)
slice_after (x ∷ u) s p i = rw (suc-add (length u) p, suc-add (length u) i) (slice_after u s p i)

-- and of one that stands before v
slice_before : {Q : Tail} (a : Bool) (s v : List ℕ) (p i : ℕ) → Follows Q v → At v a s i → slice p i (s ++ v) ≡ slice p i s
slice_before a s v p i stop_end w = rw append-nil
slice_before a s v p i (stop_at t) w = rw (take-append-le i s (59 ∷ t) w.fits)

module _ {e : Manner} {Q : Tail} {u : List ℕ} {a : Bool} where
  -- whether a name calls for a warning stays
  pub odd_local : (kind p : ℕ) {b : ℕ} → LocalFrom e b Q keep u a a 0 (odd_from kind (length u + p)) (odd_from kind p)
  unfolding odd
  odd_local kind p =
      record {
        ends = λ s v i z w. (omega arith, w);
        same = λ s v i z w. rw (slice_after u (s ++ v) p i, slice_before a s v p i z w);
        near = λ s i h. tt;
      }

module _ {u : List ℕ} where
  pub named_local : (kind : ℕ) → Local Stop keep u false false 2 (named kind) (named kind)
  unfolding named
  named_local kind = let f : ℕ → Reader (ℕ × Bool) = λ p. name kind >>= λ v. odd_from kind p >>= λ o. pure (v, o) in
      here_then f f (λ p. then_local (name_local kind) (λ v. then_local (odd_local kind p) (λ o. pure_local (v, o))))

  pub spelled_local : Local Stop keep u false false 2 spelled spelled
  unfolding spelled
  spelled_local = let f : ℕ → Reader (Word × Bool) = λ p. word >>= λ w. odd_from w.0 p >>= λ o. pure (w, o) in
      here_then f f (λ p. then_local word_local (λ w. then_local (odd_local w.0 p) (λ o. pure_local (w, o))))

-- ---- where a name is known

module _ (s : List ℕ) (i : ℕ) where
  pub named_got : (kind : ℕ) {v j : ℕ} → name kind s i ≡ got v j → named kind s i ≡ got (v, odd kind s i j) j
  unfolding named
  named_got kind e = rw e

  pub named_none : (kind : ℕ) → name kind s i ≡ none → named kind s i ≡ none
  unfolding named
  named_none kind e = rw e

  pub spelled_got : {w : Word} {j : ℕ} → word s i ≡ got w j → spelled s i ≡ got (w, odd w.0 s i j) j
  unfolding spelled
  spelled_got e = rw e

  pub spelled_none : word s i ≡ none → spelled s i ≡ none
  unfolding spelled
  spelled_none e = rw e
