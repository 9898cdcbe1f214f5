-- The search for the longest name: the names one after another, letter by letter, compared as the code compares.
use Rattle.std.specs.Prelude.{if◌then◌else◌}
use Prim.Native.Nat.{ℕ, zero, suc, ◌+◌, ◌≤◌, ◌<◌}
use mathlib.Core.Bool.{Bool, true, false, ◌&&◌, and-false, and-eq-true_iff}
use mathlib.Core.List.{List, [], ◌∷◌, ◌++◌}
use mathlib.Core.Logic.{◌↔◌}
use mathlib.Core.Path.{◌≡◌, refl, sym, ap, ◌∙◌}
use native.Mathlib.Omega.{arith}
use native.Mathlib.Nat.{add-zero}
use native.Mathlib.Decide.{dec_lt}
use borrow.Author.Tests.{eq-eqb, ne_eqb, eqb-true, eqb-false, leb-true}
use lib.Dec.{eqb, leb}
use lib.ListN.{length, get_or}
use Rattle.names.specs.Tests.{within}
use Rattle.names.specs.Read.{Read, got, none, refused, follow, nothing, pure, when}
use Rattle.names.specs.Texts.{bytes, all_of}
use Rattle.names.specs.Names.{Row, Word, weekday, month, event, easter, modifier, holiday, week, day, seven, six, four, three, two, four_or_more, three_or_more, names, spelled_so, lower, letter, first_of, word}
use Rattle.names.specs.Table.{fold, compared, stand, first_in, or_else, rows}
use Rattle.names.proofs.Found as value
use Rattle.names.proofs.Laws.{one_is, within_below}
use Rattle.names.proofs.Folds.{tells}
use Rattle.names.proofs.Rows.{NameLetter, is_letter_lem, plain, plain_split, all_good, names_good, good_split, longer, longer_split}

-- the comparison tells a letter of a name as the definition does
pub alike : (kind b x : ℕ) → NameLetter kind x → (compared kind b ≡ x) ↔ (letter kind b ≡ x)
unfolding compared letter
alike kind b x l = go (spelled_so kind) refl
  where
    go : (t : Bool) → spelled_so kind ≡ t → ((if t then b else fold b) ≡ x) ↔ ((if t then b else lower b) ≡ x)
    go true q = (λ e. e, λ e. e)
    go false q = tells b x (l.small q).0 (l.small q).1

-- so with the test
same_test : (kind b x : ℕ) → NameLetter kind x → eqb (letter kind b) x ≡ eqb (compared kind b) x
same_test kind b x l = go (eqb (compared kind b) x) refl
  where
    go : (t : Bool) → eqb (compared kind b) x ≡ t → eqb (letter kind b) x ≡ t
    go true q = eq-eqb _ x ((alike kind b x l).0 (eqb-true _ x q))
    go false q = ne_eqb _ x (λ e. eqb-false _ x q ((alike kind b x l).1 e))

-- a byte below the letters counts as itself
letter_below : (kind b : ℕ) → b < 65 → letter kind b ≡ b
unfolding letter lower
letter_below kind b h = rw (within_below 65 90 b h) (go (spelled_so kind))
  where
    go : (t : Bool) → (if t then b else b) ≡ b
    go true = refl
    go false = refl

-- and is no letter of a name
no_letter_lem : (kind b x : ℕ) → NameLetter kind x → b < 65 → eqb (letter kind b) x ≡ false
no_letter_lem kind b x l h = ne_eqb _ x (λ e. omega (arith, l.some, sym (letter_below kind b h) ∙ e))

module _ (s : List ℕ) where
  -- letters that stand at a place, or do not
  pub stand_is : (kind : ℕ) (xs : List ℕ) → plain kind xs ≡ true → (i : ℕ) → all_of (letter kind) xs s i ≡ when (stand kind xs s i) (got tt (i + length xs))
  unfolding all_of stand
  stand_is kind [] e i = rw (add-zero i)
  stand_is kind (x ∷ xs) e i =
      let h = plain_split kind x xs e in
      let b = get_or s i 0 in
      rw (one_is (λ c. eqb (letter kind c) x) (no_letter_lem kind 0 x h.0 (omega arith)) s i refl (same_test kind b x h.0)) (go (eqb (compared kind b) x) (stand_is kind xs h.1 (i + 1)))
    where
      go : (t : Bool) → all_of (letter kind) xs s (i + 1) ≡ when (stand kind xs s (i + 1)) (got tt (i + 1 + length xs)) →
          follow s i (when t (got (get_or s i 0) (i + 1))) (λ _. all_of (letter kind) xs) nothing ≡ when (t && stand kind xs s (i + 1)) (got tt (i + length (x ∷ xs)))
      go true q = let z : i + 1 + length xs ≡ i + length (x ∷ xs) = omega arith in q ∙ rw (z)
      go false q = refl

  -- letters do not stand where one of their bytes is below the letters
  stand_below : (kind : ℕ) (xs : List ℕ) → plain kind xs ≡ true → (k i : ℕ) → k < length xs → get_or s (i + k) 0 < 65 → stand kind xs s i ≡ false
  unfolding stand
  stand_below kind [] e k i l h = absurd (omega arith)
  stand_below kind (x ∷ xs) e zero i l h = let p = plain_split kind x xs e in
      rw (sym (same_test kind (get_or s i 0) x p.0), no_letter_lem kind (get_or s i 0) x p.0 (rw (add-zero i) at h))
  stand_below kind (x ∷ xs) e (suc k) i l h = let z : i + 1 + k ≡ i + suc k = omega arith in
      rw (stand_below kind xs (plain_split kind x xs e).1 k (i + 1) (omega arith) (rw z h), and-false)

  module _ (i : ℕ) where
    -- the first of some names, as the definition finds it
    pub first_is : (rs : List Row) → all_good rs ≡ true → first_of rs s i ≡ first_in rs s i
    unfolding first_of first_in
    first_is [] e = refl
    first_is (r ∷ rs) e =
        let g = good_split r rs e in
        rw (stand_is r.1.0 r.0 g.0 i) (go (stand r.1.0 r.0 s i) (first_is rs g.1))
      where
        go : (t : Bool) → first_of rs s i ≡ first_in rs s i →
            follow s i (when t (got (tt {0}) (i + length r.0))) (λ _. pure r.1) (first_of rs) ≡ (if t then got r.1 (i + length r.0) else first_in rs s i)
        go true q = refl
        go false q = q

    -- names and more names
    pub first_append : (rs qs : List Row) → first_of (rs ++ qs) s i ≡ or_else (first_of rs s i) (first_of qs s i)
    unfolding first_of
    first_append [] qs = refl
    first_append (r ∷ rs) qs = go (all_of (letter r.1.0) r.0 s i) (first_append rs qs)
      where
        go : (x : Read (Unit {0})) → first_of (rs ++ qs) s i ≡ or_else (first_of rs s i) (first_of qs s i) →
            follow s i x (λ _. pure r.1) (first_of (rs ++ qs)) ≡ or_else (follow s i x (λ _. pure r.1) (first_of rs)) (first_of qs s i)
        go (got a j) q = refl
        go none q = q
        go (refused k p) q = refl

    -- names, compared as the code compares, and more of them
    more : (rs qs : List Row) → all_good qs ≡ true → first_of (rs ++ qs) s i ≡ or_else (first_of rs s i) (first_in qs s i)
    more rs qs g = first_append rs qs ∙ ap (or_else (first_of rs s i)) (first_is qs g)

    -- each group: its lists of names, one after another
    pub seven_lem : first_of seven s i ≡ or_else (first_in (rows event 2 (bytes "sunrise" ∷ [])) s i) (first_in (rows modifier 2 (bytes "unknown" ∷ [])) s i)
    unfolding all_good is_letter_lem plain rows spelled_so within
    seven_lem = more ((rows event 2 (bytes "sunrise" ∷ []))) (rows modifier 2 (bytes "unknown" ∷ [])) refl ∙ ap (λ w. or_else w (first_in (rows modifier 2 (bytes "unknown" ∷ [])) s i)) (first_is (rows event 2 (bytes "sunrise" ∷ [])) refl)

    pub six_lem : first_of six s i ≡ or_else (or_else (first_in (rows modifier 1 (bytes "closed" ∷ [])) s i) (first_in (rows easter 0 (bytes "easter" ∷ [])) s i)) (first_in (rows event 3 (bytes "sunset" ∷ [])) s i)
    unfolding all_good is_letter_lem plain rows spelled_so within
    six_lem = more ((rows modifier 1 (bytes "closed" ∷ [])) ++ (rows easter 0 (bytes "easter" ∷ []))) (rows event 3 (bytes "sunset" ∷ [])) refl ∙ ap (λ w. or_else w (first_in (rows event 3 (bytes "sunset" ∷ [])) s i)) (more ((rows modifier 1 (bytes "closed" ∷ []))) (rows easter 0 (bytes "easter" ∷ [])) refl ∙ ap (λ w. or_else w (first_in (rows easter 0 (bytes "easter" ∷ [])) s i)) (first_is (rows modifier 1 (bytes "closed" ∷ [])) refl))

    pub four_lem : first_of four s i ≡ or_else (or_else (or_else (or_else (first_in (rows event 1 (bytes "dawn" ∷ [])) s i) (first_in (rows event 4 (bytes "dusk" ∷ [])) s i)) (first_in (rows modifier 0 (bytes "open" ∷ [])) s i)) (first_in (rows week 0 (bytes "week" ∷ [])) s i)) (first_in (rows day 0 (bytes "days" ∷ [])) s i)
    unfolding all_good is_letter_lem plain rows spelled_so within
    four_lem = more ((rows event 1 (bytes "dawn" ∷ [])) ++ (rows event 4 (bytes "dusk" ∷ [])) ++ (rows modifier 0 (bytes "open" ∷ [])) ++ (rows week 0 (bytes "week" ∷ []))) (rows day 0 (bytes "days" ∷ [])) refl ∙ ap (λ w. or_else w (first_in (rows day 0 (bytes "days" ∷ [])) s i)) (more ((rows event 1 (bytes "dawn" ∷ [])) ++ (rows event 4 (bytes "dusk" ∷ [])) ++ (rows modifier 0 (bytes "open" ∷ []))) (rows week 0 (bytes "week" ∷ [])) refl ∙ ap (λ w. or_else w (first_in (rows week 0 (bytes "week" ∷ [])) s i)) (more ((rows event 1 (bytes "dawn" ∷ [])) ++ (rows event 4 (bytes "dusk" ∷ []))) (rows modifier 0 (bytes "open" ∷ [])) refl ∙ ap (λ w. or_else w (first_in (rows modifier 0 (bytes "open" ∷ [])) s i)) (more ((rows event 1 (bytes "dawn" ∷ []))) (rows event 4 (bytes "dusk" ∷ [])) refl ∙ ap (λ w. or_else w (first_in (rows event 4 (bytes "dusk" ∷ [])) s i)) (first_is (rows event 1 (bytes "dawn" ∷ [])) refl))))

    pub three_lem : first_of three s i ≡ or_else (or_else (first_in (rows modifier 1 (bytes "off" ∷ [])) s i) (first_in (rows day 0 (bytes "day" ∷ [])) s i)) (first_in (rows month 1 (bytes "jan" ∷ bytes "feb" ∷ bytes "mar" ∷ bytes "apr" ∷ bytes "may" ∷ bytes "jun" ∷ bytes "jul" ∷ bytes "aug" ∷ bytes "sep" ∷ bytes "oct" ∷ bytes "nov" ∷ bytes "dec" ∷ [])) s i)
    unfolding all_good is_letter_lem plain rows spelled_so within
    three_lem = more ((rows modifier 1 (bytes "off" ∷ [])) ++ (rows day 0 (bytes "day" ∷ []))) (rows month 1 (bytes "jan" ∷ bytes "feb" ∷ bytes "mar" ∷ bytes "apr" ∷ bytes "may" ∷ bytes "jun" ∷ bytes "jul" ∷ bytes "aug" ∷ bytes "sep" ∷ bytes "oct" ∷ bytes "nov" ∷ bytes "dec" ∷ [])) refl ∙ ap (λ w. or_else w (first_in (rows month 1 (bytes "jan" ∷ bytes "feb" ∷ bytes "mar" ∷ bytes "apr" ∷ bytes "may" ∷ bytes "jun" ∷ bytes "jul" ∷ bytes "aug" ∷ bytes "sep" ∷ bytes "oct" ∷ bytes "nov" ∷ bytes "dec" ∷ [])) s i)) (more ((rows modifier 1 (bytes "off" ∷ []))) (rows day 0 (bytes "day" ∷ [])) refl ∙ ap (λ w. or_else w (first_in (rows day 0 (bytes "day" ∷ [])) s i)) (first_is (rows modifier 1 (bytes "off" ∷ [])) refl))

    pub two_lem : first_of two s i ≡ or_else (first_in (rows weekday 1 (bytes "mo" ∷ bytes "tu" ∷ bytes "we" ∷ bytes "th" ∷ bytes "fr" ∷ bytes "sa" ∷ bytes "su" ∷ [])) s i) (first_in (rows holiday 1 (bytes "PH" ∷ bytes "SH" ∷ [])) s i)
    unfolding all_good is_letter_lem plain rows spelled_so within
    two_lem = more ((rows weekday 1 (bytes "mo" ∷ bytes "tu" ∷ bytes "we" ∷ bytes "th" ∷ bytes "fr" ∷ bytes "sa" ∷ bytes "su" ∷ []))) (rows holiday 1 (bytes "PH" ∷ bytes "SH" ∷ [])) refl ∙ ap (λ w. or_else w (first_in (rows holiday 1 (bytes "PH" ∷ bytes "SH" ∷ [])) s i)) (first_is (rows weekday 1 (bytes "mo" ∷ bytes "tu" ∷ bytes "we" ∷ bytes "th" ∷ bytes "fr" ∷ bytes "sa" ∷ bytes "su" ∷ [])) refl)

    -- the groups from the longest names on, and the next
    pub four_or_more_lem : first_of four_or_more s i ≡ or_else (or_else (first_of seven s i) (first_of six s i)) (first_of four s i)
    four_or_more_lem = first_append (seven ++ six) four ∙ rw (first_append seven six)

    pub three_or_more_lem : first_of three_or_more s i ≡ or_else (first_of four_or_more s i) (first_of three s i)
    three_or_more_lem = first_append four_or_more three

    pub two_or_more_lem : word s i ≡ or_else (first_of three_or_more s i) (first_of two s i)
    unfolding word names
    two_or_more_lem = first_append three_or_more two

    -- no name of more than k letters stands where the byte k after its place is below the letters
    module _ (k : ℕ) (h : get_or s (i + k) 0 < 65) where
      pub none_first : (rs : List Row) → longer k rs ≡ true → all_good rs ≡ true → first_of rs s i ≡ none
      unfolding first_of
      none_first [] l e = refl
      none_first (r ∷ rs) l e = let g = good_split r rs e in let m = longer_split k r rs l in
          rw (stand_is r.1.0 r.0 g.0 i, stand_below r.1.0 r.0 g.0 k i m.0 h) (none_first rs m.1 g.1)

    -- no name begins with a byte below the letters
    pub no_word : get_or s i 0 < 65 → word s i ≡ none
    unfolding word longer names
    no_word h = none_first 0 (rw (add-zero i) h) names refl names_good

-- where a name stands, its first byte is no digit and no sign
pub word_letter : (s : List ℕ) (i : ℕ) {v : Word} {j : ℕ} → word s i ≡ got v j → 65 ≤ get_or s i 0
word_letter s i {v} {j} e = go (dec_lt (get_or s i 0) 65)
  where
    go : Dec (get_or s i 0 < 65) → 65 ≤ get_or s i 0
    go (yes h) = let q = no_word s i h in absurd (let z : ◌≡◌ {A = ℕ} 0 1 = cc in omega arith)
    go (no h) = omega arith

-- a test that each of these names passes
passed : (Word → Bool) → List Row → Bool
passed test [] = true
passed test (r ∷ rs) = test r.1 && passed test rs

-- the name found passes it
found_passes : (test : Word → Bool) (rs : List Row) → passed test rs ≡ true → (s : List ℕ) (i : ℕ) → value.Found (λ v. test v ≡ true) (first_of rs s i)
unfolding first_of passed
found_passes test [] h s i = tt
found_passes test (r ∷ rs) h s i = let p = (and-eq-true_iff (test r.1) (passed test rs)).0 h in go (all_of (letter r.1.0) r.0 s i) p.0 (found_passes test rs p.1 s i)
  where
    go : (x : Read (Unit {0})) → test r.1 ≡ true → value.Found (λ v. test v ≡ true) (first_of rs s i) → value.Found (λ v. test v ≡ true) (follow s i x (λ _. pure r.1) (first_of rs))
    go (got a j) p q = p
    go none p q = q
    go (refused k l) p q = tt

-- the value of a name is at most 12
pub word_small : (s : List ℕ) (i : ℕ) {v : Word} {j : ℕ} → word s i ≡ got v j → v.1 ≤ 12
unfolding word passed names
word_small s i {v} e = leb-true v.1 12 (rw e at (found_passes (λ w. leb w.1 12) names refl s i))

-- a month is from 1 to 12
abbrev pub month_range : Word → Bool
month_range v = if eqb v.0 month then within 1 12 v.1 else true

pub word_month : value.Finds (λ v. month_range v ≡ true) word
unfolding word passed names within
word_month = record { found = found_passes month_range names refl }
