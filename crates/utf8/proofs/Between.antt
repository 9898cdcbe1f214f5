-- The characters of a comment are all of its bytes exactly when these are well_formed_lem.
use Prim.Native.Nat.{ℕ, zero, suc, ◌+◌, ◌≤◌, ◌<◌}
use mathlib.Core.Bool.{Bool, true, false, true≢false}
use mathlib.Core.List.{List, [], ◌++◌}
use mathlib.Core.Path.{◌≡◌, refl, sym, ap, ◌∙◌}
use native.Mathlib.Omega.{arith}
use native.Mathlib.Decide.{dec_lt, ℕ_discrete}
use native.Mathlib.Nat.{add-zero}
use lib.ListN.{length, get_or, take, drop, length-append, take-append-drop, get_or-append, get_or-eq_default}
use lib.Seq.{get_or-append-add, get_or-take, get_or-drop, length-take-le, slice, slice_empty, length-slice}
use Rattle.names.specs.Tests.{within}
use Rattle.names.specs.Read.{Read, got, none, refused, Reader, follow, nothing, pure, ◌>>◌, ◌or◌}
use Rattle.names.specs.Chain.{skip}
use Rattle.names.proofs.Local.{Ends, ends_map, moved, keep, takes, past_one}
use Rattle.names.proofs.Laws.{within_below}
use Rattle.names.proofs.Skips.{skip_more, skip_stop, skip_end}
use Rattle.utf8.specs.Utf8.{octet, longer, utf8_char, utf8_octets}
use Rattle.utf8.specs.CodePoints.{WellFormed}
use Rattle.utf8.specs.Letters.{is_inner, letter, letters, LettersAreWellFormed}
use Rattle.utf8.proofs.Laws.{same_place, octet_got, octet_past, octet_not}
use Rattle.utf8.proofs.Rows.{longer_from}
use Rattle.utf8.proofs.Made.{longer_has}
use Rattle.utf8.proofs.Cut.{octet_ended, char_ended}
use Rattle.utf8.proofs.Firsts.{plain_low, plain_high, letter_plain, letter_longer, letter_past, char_plain, char_longer, char_past}
use Rattle.utf8.proofs.Repeats.{letters_is, letters_more, letters_stop, octets_is, octets_more, octets_stop, octets_after, unmoved}
use Rattle.utf8.proofs.Inner.{inner_high}

-- ---- where bytes of a comment end

record Reached (s : List ℕ) (i k : ℕ) : Type 0 where
  forward : i ≤ k
  inside : i ≤ length s → k ≤ length s
  inner : (p : ℕ) → i ≤ p → p < k → is_inner (get_or s p 0) ≡ true
  stop : is_inner (get_or s k 0) ≡ false

-- at once
reached_here : (s : List ℕ) (i k : ℕ) → k ≡ i → is_inner (get_or s i 0) ≡ false → Reached s i k
reached_here s i k e w = record { forward = omega arith; inside = λ l. omega arith; inner = λ p a b. absurd (omega arith); stop = rw e w }

-- past the text's end
past_inner : (s : List ℕ) (i : ℕ) → length s ≤ i → is_inner (get_or s i 0) ≡ false
unfolding is_inner
past_inner s i h = rw (get_or-eq_default s 0 h)

-- a byte more
reached_more : (s : List ℕ) (i k : ℕ) → i < length s → is_inner (get_or s i 0) ≡ true → Reached s (suc i) k → Reached s i k
reached_more s i k h w r = record { forward = omega arith; inside = λ l. r.inside h; inner = λ p a b. go p a b (ℕ_discrete p i); stop = r.stop }
  where
    go : (p : ℕ) → i ≤ p → p < k → Dec (p ≡ i) → is_inner (get_or s p 0) ≡ true
    go p a b (yes e) = rw e w
    go p a b (no n) = r.inner p (omega arith) b

reached_within : (s : List ℕ) (k n i : ℕ) → length s ≤ n + i → skip is_inner s i ≡ got tt k → Reached s i k
reached_within s k zero i h e = reached_here s i k (same_place (sym (skip_end is_inner s i (omega arith)) ∙ e)) (past_inner s i (omega arith))
reached_within s k (suc n) i h e = go (dec_lt i (length s)) (is_inner (get_or s i 0)) refl (λ l f. reached_within s k n (suc i) l f)
  where
    go : Dec (i < length s) → (t : Bool) → is_inner (get_or s i 0) ≡ t → (length s ≤ n + suc i → skip is_inner s (suc i) ≡ got tt k → Reached s (suc i) k) → Reached s i k
    go (no l) t w f = reached_here s i k (same_place (sym (skip_end is_inner s i (omega arith)) ∙ e)) (past_inner s i (omega arith))
    go (yes l) false w f = reached_here s i k (same_place (sym (skip_stop is_inner s i l w) ∙ e)) w
    go (yes l) true w f = reached_more s i k l w (f (omega arith) (sym (skip_more is_inner s i l w) ∙ e))

reached : (s : List ℕ) (i k : ℕ) → skip is_inner s i ≡ got tt k → Reached s i k
reached s i k e = reached_within s k (length s) i (omega arith) e

-- ---- a longer character before a byte that is none of a comment, or the end

abbrev Outer : List ℕ → Type 0
Outer v = is_inner (get_or v 0 0) ≡ false

outer_low : (v : List ℕ) → Outer v → get_or v 0 0 < 0x80
outer_low v o = go (dec_lt (get_or v 0 0) 0x80)
  where
    go : Dec (get_or v 0 0 < 0x80) → get_or v 0 0 < 0x80
    go (yes h) = h
    go (no h) = absurd (true≢false (sym (inner_high (get_or v 0 0) (omega arith)) ∙ o))

-- the byte after r
at_end_lem : (r v : List ℕ) → get_or (r ++ v) (length r) 0 ≡ get_or v 0 0
at_end_lem r v = rw add-zero at (get_or-append-add r v 0 0)

record Stops (m : Reader (Unit {0})) : Type 0 where
  same : (r v : List ℕ) (i : ℕ) → Outer v → i ≤ length r → m (r ++ v) i ≡ m r i
  stays : (r : List ℕ) (i : ℕ) → Ends (λ j. j ≤ length r) (m r i)

octet_stops : (lo hi : ℕ) → 0x80 ≤ lo → Stops (octet lo hi)
octet_stops lo hi l = record { same = λ r v i o h. go r v i o h (dec_lt i (length r)); stays = λ r i. ends_map (λ j p. p.1) (octet lo hi r i) (takes (octet_ended {u = []} {a = true} lo hi) r i) }
  where
    inside : (r v : List ℕ) (i : ℕ) → i < length r → (t : Bool) → within lo hi (get_or r i 0) ≡ t → octet lo hi (r ++ v) i ≡ octet lo hi r i
    inside r v i h true w = octet_got lo hi (r ++ v) i (simp length-append (omega arith)) (rw (get_or-append r v 0 i h) w) ∙ sym (octet_got lo hi r i h w)
    inside r v i h false w = octet_not lo hi (r ++ v) i (rw (get_or-append r v 0 i h) w) ∙ sym (octet_not lo hi r i w)

    go : (r v : List ℕ) (i : ℕ) → Outer v → i ≤ length r → Dec (i < length r) → octet lo hi (r ++ v) i ≡ octet lo hi r i
    go r v i o h (yes k) = inside r v i k (within lo hi (get_or r i 0)) refl
    go r v i o h (no k) =
        let e : i ≡ length r = omega arith in
        octet_not lo hi (r ++ v) i (within_below lo hi (get_or (r ++ v) i 0) (rw (e, at_end_lem r v) (omega (arith, outer_low v o)))) ∙ sym (octet_past lo hi r i (omega arith))

module _ {m n : Reader (Unit {0})} (M : Stops m) (N : Stops n) where
  then_stops : Stops (m >> n)
  then_stops = record { same = λ r v i o h. rw (M.same r v i o h) (same r v i o h (m r i) (M.stays r i)); stays = λ r i. ends r i (m r i) (M.stays r i) }
    where
      same : (r v : List ℕ) (i : ℕ) → Outer v → i ≤ length r → (x : Read (Unit {0})) → Ends (λ j. j ≤ length r) x → follow (r ++ v) i x (λ _. n) nothing ≡ follow r i x (λ _. n) nothing
      same r v i o h (got u j) p = N.same r v j o p
      same r v i o h none p = refl
      same r v i o h (refused k q) p = refl

      ends : (r : List ℕ) (i : ℕ) (x : Read (Unit {0})) → Ends (λ j. j ≤ length r) x → Ends (λ j. j ≤ length r) (follow r i x (λ _. n) nothing)
      ends r i (got u j) p = N.stays r j
      ends r i none p = tt
      ends r i (refused k q) p = p

  or_stops : Stops (m or n)
  or_stops = record { same = λ r v i o h. rw (M.same r v i o h) (same r v i o h (m r i)); stays = λ r i. ends r i (m r i) (M.stays r i) }
    where
      same : (r v : List ℕ) (i : ℕ) → Outer v → i ≤ length r → (x : Read (Unit {0})) → follow (r ++ v) i x pure n ≡ follow r i x pure n
      same r v i o h (got u j) = refl
      same r v i o h none = N.same r v i o h
      same r v i o h (refused k q) = refl

      ends : (r : List ℕ) (i : ℕ) (x : Read (Unit {0})) → Ends (λ j. j ≤ length r) x → Ends (λ j. j ≤ length r) (follow r i x pure n)
      ends r i (got u j) p = p
      ends r i none p = N.stays r i
      ends r i (refused k q) p = p

longer_stops : Stops longer
longer_stops = longer_has {P = Stops} (record { byte = octet_stops; both = λ M N. then_stops M N; either = λ M N. or_stops M N })

-- ---- characters of a comment and any characters, where r is followed by no byte of a comment

module _ (r v : List ℕ) (o : Outer v) where
  -- at the end of r
  letter_end : letter (r ++ v) (length r) ≡ none
  letter_end = go (dec_lt (length r) (length (r ++ v)))
    where
      go : Dec (length r < length (r ++ v)) → letter (r ++ v) (length r) ≡ none
      go (yes h) =
          letter_longer (r ++ v) (length r) h (rw (at_end_lem r v) (plain_low (get_or v 0 0) (outer_low v o) ∙ o))
          ∙ longer_from.below (r ++ v) (length r) (rw (at_end_lem r v) (omega (arith, outer_low v o)))
      go (no h) = letter_past (r ++ v) (length r) (omega arith)

  letter_char : (i : ℕ) → i ≤ length r → (i < length r → is_inner (get_or r i 0) ≡ true) → letter (r ++ v) i ≡ utf8_char r i
  letter_char i h w = go (dec_lt i (length r)) (dec_lt (get_or r i 0) 0x80)
    where
      longer_text : i < length r → i < length (r ++ v)
      longer_text l = simp length-append (omega arith)

      go : Dec (i < length r) → Dec (get_or r i 0 < 0x80) → letter (r ++ v) i ≡ utf8_char r i
      go (no l) x = let e : i ≡ length r = omega arith in rw e (letter_end ∙ sym (char_past r (length r) (omega arith)))
      go (yes l) (yes b) =
          let g = get_or-append r v 0 i l in
          letter_plain (r ++ v) i (longer_text l) (rw g (plain_low (get_or r i 0) b ∙ w l)) ∙ sym (char_plain r i l b)
      go (yes l) (no b) =
          letter_longer (r ++ v) i (longer_text l) (rw (get_or-append r v 0 i l) (plain_high (get_or r i 0) (omega arith))) ∙ longer_stops.same r v i o h ∙ sym (char_longer r i (omega arith))

  letters_octets : (n i : ℕ) → length r ≤ n + i → i ≤ length r → ((p : ℕ) → i ≤ p → p < length r → is_inner (get_or r p 0) ≡ true) → letters (r ++ v) i ≡ utf8_octets r i
  letters_octets zero i h l w =
      let e : i ≡ length r = omega arith in
      rw e (letters_stop (r ++ v) (length r) letter_end ∙ sym (octets_stop r (length r) (char_past r (length r) (omega arith))))
  letters_octets (suc n) i h l w = go (utf8_char r i) refl (letter_char i l (λ k. w i (omega arith) k)) (λ j a b c. letters_octets n j a b c)
    where
      go : (x : Read (Unit {0})) → utf8_char r i ≡ x → letter (r ++ v) i ≡ utf8_char r i →
          ((j : ℕ) → length r ≤ n + j → j ≤ length r → ((p : ℕ) → j ≤ p → p < length r → is_inner (get_or r p 0) ≡ true) → letters (r ++ v) j ≡ utf8_octets r j) → letters (r ++ v) i ≡ utf8_octets r i
      go (got u j) e s f =
          let q = past_one (char_ended {a = true}) e in
          letters_more (r ++ v) i (s ∙ e) ∙ f j (omega arith) (omega arith) (λ p a b. w p (omega arith) b) ∙ sym (octets_more r i e)
      go none e s f = letters_stop (r ++ v) i (s ∙ e) ∙ sym (octets_stop r i e)
      go (refused k p) e s f = rw (letters_is (r ++ v) i, octets_is r i, s, e)

-- ---- in a text

module _ (s : List ℕ) (i k : ℕ) (w : Reached s i k) (h : i ≤ length s) where
  long : length (take k s) ≡ k
  long = length-take-le k s (w.inside h)

  inner_taken : (p : ℕ) → i ≤ p → p < length (take k s) → is_inner (get_or (take k s) p 0) ≡ true
  inner_taken p a b = let l : p < k = omega (arith, long) in rw (get_or-take k s p 0 l) (w.inner p a l)

  -- the text up to where bytes of a comment end, and of it what follows the place
  cut : letters s i ≡ utf8_octets (take k s) i
  cut =
      rw (take-append-drop k s) at (letters_octets (take k s) (drop k s) (rw (get_or-drop k s 0 0, add-zero) w.stop) (length s) i (omega (arith, long, w.inside h))
      (omega (arith, long, w.forward)) inner_taken)

  moved_cut : letters s i ≡ moved keep i (utf8_octets (slice i k s) 0)
  moved_cut =
      let n : length (take i (take k s)) ≡ i = length-take-le i (take k s) (omega (arith, long, w.forward)) in
      cut ∙ (rw (take-append-drop i (take k s), n) at (octets_after (take i (take k s)) (slice i k s)))

  end_is : i + length (slice i k s) ≡ k
  end_is = omega (arith, length-slice i k s (w.inside h), w.forward)

  letters_slice : (letters s i ≡ got tt k → WellFormed (slice i k s)) × (WellFormed (slice i k s) → letters s i ≡ got tt k)
  letters_slice =
      (λ e. unmoved i (length (slice i k s)) (utf8_octets (slice i k s) 0) (sym moved_cut ∙ e ∙ ap (λ (n : ℕ). got tt n) (sym end_is)), λ e. moved_cut ∙ rw (e, end_is))

-- from a place past the end, no bytes
letters_none : (s : List ℕ) (i k : ℕ) → length s < i → k ≡ i → (letters s i ≡ got tt k → WellFormed (slice i k s)) × (WellFormed (slice i k s) → letters s i ≡ got tt k)
letters_none s i k h e = rw (e, slice_empty i s) (λ _. octets_stop [] 0 (char_past [] 0 (omega arith)), λ _. letters_stop s i (letter_past s i (omega arith)))

pub letters_are_well_formed : LettersAreWellFormed
letters_are_well_formed s i k e = go (dec_lt (length s) i)
  where
    go : Dec (length s < i) → (letters s i ≡ got tt k → WellFormed (slice i k s)) × (WellFormed (slice i k s) → letters s i ≡ got tt k)
    go (yes h) = letters_none s i k h (same_place (sym (skip_end is_inner s i (omega arith)) ∙ e))
    go (no h) = letters_slice s i k (reached s i k e) (omega arith)
