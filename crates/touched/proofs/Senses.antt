-- The tests, in other words.
use Rattle.std.specs.Prelude.{if◌then◌else◌}
use Prim.Native.Nat.{ℕ, ◌+◌, ◌-◌, ◌*◌, ◌/◌, ◌%◌, ◌≤◌, ◌<◌}
use mathlib.Core.Bool.{Bool, true, false, ◌&&◌, ◌||◌, true≢false, and-eq-true_iff}
use mathlib.Core.Logic.{◌↔◌}
use mathlib.Core.Path.{◌≡◌, refl, sym}
use native.Mathlib.Omega.{arith}
use native.Mathlib.Nat.{mul-mod_left, div-add-mod'}
use native.Mathlib.Decide.{dec_lt}
use borrow.Author.Tests.{eq-eqb, eqb-true, leb-true, leb-false}
use lib.Dec.{leb, eqb}
use Rattle.names.specs.Tests.{within}
use Rattle.names.proofs.Laws.{within_true, within_range}
use Rattle.almanac.specs.Numbers.{number}
use Rattle.almanac.specs.Laws.{Known}
use Rattle.almanac.specs.declared.Ymd.{Ymd}
use Rattle.almanac.proofs.Order.{order}
use Rattle.touched.specs.Selectors.{stepped, round, dated}
use Rattle.touched.specs.Senses.{Stepped, Round, Between}

-- ---- steps

pub stepped_says : Stepped
unfolding stepped
stepped_says first last step n = (there, back)
  where
    pick : (t : Bool) → eqb step 0 ≡ t → first ≤ n → (if t then eqb n first else eqb ((n - first) % step) 0) ≡ true → (k : ℕ) × (n ≡ first + k * step)
    pick true p l h = (0, omega (arith, eqb-true n first h))
    pick false p l h = ((n - first) / step, omega (arith, div-add-mod' (n - first) step, eqb-true ((n - first) % step) 0 h))

    there : (within first last n && (if eqb step 0 then eqb n first else eqb ((n - first) % step) 0)) ≡ true → (n ≤ last) × ((k : ℕ) × (n ≡ first + k * step))
    there h =
        let p = (and-eq-true_iff (within first last n) (if eqb step 0 then eqb n first else eqb ((n - first) % step) 0)).0 h in
        let r = within_range first last n p.0 in
        (r.1, pick (eqb step 0) refl r.0 p.1)

    on : (k : ℕ) → n ≡ first + k * step → (t : Bool) → eqb step 0 ≡ t → (if t then eqb n first else eqb ((n - first) % step) 0) ≡ true
    on k e true p = let z : k * step ≡ 0 = rw (eqb-true step 0 p) (omega arith) in eq-eqb n first (omega arith)
    on k e false p = let d : n - first ≡ k * step = omega arith in rw d (eq-eqb ((k * step) % step) 0 (mul-mod_left k step))

    back : (n ≤ last) × ((k : ℕ) × (n ≡ first + k * step)) → (within first last n && (if eqb step 0 then eqb n first else eqb ((n - first) % step) 0)) ≡ true
    back r = rw (within_true first last n (omega (arith, r.1.1)) r.0) (on r.1.0 r.1.1 (eqb step 0) refl)

-- ---- rounds

pub round_says : Round
unfolding round
round_says c first last n hf hc hn hl h1 = go (leb first last) refl (leb first n) refl (leb n last) refl
  where
    go : (t : Bool) → leb first last ≡ t → (u : Bool) → leb first n ≡ u → (v : Bool) → leb n last ≡ v
        → ((if t then within first last n else (u || v)) ≡ true) ↔ ((if u then n - first else n + c - first) ≤ (if t then last - first else last + c - first))
    go true p true q v r =
        let a = leb-true first last p in
        let b = leb-true first n q in
        (λ h. omega (arith, within_range first last n h), λ h. within_true first last n b (omega arith))
    go true p false q v r =
        let a = leb-true first last p in
        let b = leb-false first n q in
        (λ h. absurd (omega (arith, within_range first last n h)), λ h. absurd (omega arith))
    go false p true q v r =
        let a = leb-false first last p in
        let b = leb-true first n q in
        (λ h. omega arith, λ h. refl)
    go false p false q true r =
        let a = leb-false first last p in
        let b = leb-false first n q in
        let d = leb-true n last r in
        (λ h. omega arith, λ h. refl)
    go false p false q false r =
        let a = leb-false first last p in
        let b = leb-false first n q in
        let d = leb-false n last r in
        (λ h. absurd (true≢false (sym h)), λ h. absurd (omega arith))

-- ---- dates

-- not before, by the one and by the other
module _ (a b : Ymd) (ka : Known a) (kb : Known b) where
  not_less : dated b.year b.month b.day ≤ dated a.year a.month a.day → number b ≤ number a
  not_less h = go (dec_lt (number a) (number b))
    where
      go : Dec (number a < number b) → number b ≤ number a
      go (yes p) = absurd (omega (arith, (order a b ka kb).0 p))
      go (no p) = omega arith

  less_not : number a ≤ number b → dated a.year a.month a.day ≤ dated b.year b.month b.day
  less_not h = go (dec_lt (dated b.year b.month b.day) (dated a.year a.month a.day))
    where
      go : Dec (dated b.year b.month b.day < dated a.year a.month a.day) → dated a.year a.month a.day ≤ dated b.year b.month b.day
      go (yes p) = absurd (omega (arith, (order b a kb ka).1 p))
      go (no p) = omega arith

pub between_says : Between
between_says a b x ka kb kx = (there, back)
  where
    there : within (dated a.year a.month a.day) (dated b.year b.month b.day) (dated x.year x.month x.day) ≡ true → (number a ≤ number x) × (number x ≤ number b)
    there h =
        let r = within_range (dated a.year a.month a.day) (dated b.year b.month b.day) (dated x.year x.month x.day) h in
        (not_less x a kx ka r.0, not_less b x kb kx r.1)

    back : (number a ≤ number x) × (number x ≤ number b) → within (dated a.year a.month a.day) (dated b.year b.month b.day) (dated x.year x.month x.day) ≡ true
    back r = within_true (dated a.year a.month a.day) (dated b.year b.month b.day) (dated x.year x.month x.day) (less_not a x ka kx r.0) (less_not x b kx kb r.1)
