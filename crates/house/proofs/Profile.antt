-- The judgement finds no break exactly where every rule breaks none of the profile's sentences.
use Rattle.std.specs.Prelude.{Option, Some, None, if◌then◌else◌}
use Rattle.names.specs.declared.refusals.Reason.TheVariants.{HouseForm, HouseOrder}
use Prim.Native.Nat.{ℕ, ◌≤◌}
use mathlib.Core.Bool.{Bool, true, false, ◌&&◌, not, true≢false}
use mathlib.Core.List.{List, [], ◌∷◌}
use mathlib.Core.Path.{◌≡◌, refl, sym}
use native.Mathlib.Omega.{arith}
use lib.Dec.{ltb, leb, eqb}
use borrow.Author.Tests.{lt-ltb, le-leb, ltb-true, leb-true, eqb-true}
use Rattle.records.specs.declared.Time.{Time}
use Rattle.records.specs.declared.Time.TheVariants.{Fixed, Dawn, Sunrise, Sunset, Dusk}
use Rattle.records.specs.declared.Span.{Span}
use Rattle.records.specs.declared.Item.TheVariants.{Years, Months, Dates, Weeks, Weekdays, Holidays, Times}
use Rattle.records.specs.Words.{Placed}
use Rattle.rules.specs.Rules.{Rule}
use Rattle.house.specs.Spans.{Break, at, is_clock, minutes, is_never, of_clocks, is_plain, allowed, in_order, span_break, span_break_as}
use Rattle.house.specs.Breaks.{first_of, items_break, separator_break, rule_break, rules_break}
use Rattle.house.specs.Profile.{Each, Spanned, Clock, Form, Forward, After, Rising, Keeps, Exactly}

-- ---- tests and what they say

-- both of two tests pass
both : (a b : Bool) → (a && b) ≡ true → (a ≡ true) × (b ≡ true)
both true b e = (refl, e)
both false b e = absurd (true≢false (sym e))

clock_is : (t : Time) → is_clock t ≡ true → Clock t
unfolding is_clock
clock_is (Fixed m) e = leb-true m 1440 e
clock_is (Dawn m) e = absurd (true≢false (sym e))
clock_is (Sunrise m) e = absurd (true≢false (sym e))
clock_is (Sunset m) e = absurd (true≢false (sym e))
clock_is (Dusk m) e = absurd (true≢false (sym e))

is_clock_lem : (t : Time) → Clock t → is_clock t ≡ true
unfolding is_clock
is_clock_lem (Fixed m) h = le-leb m 1440 h
is_clock_lem (Dawn m) h = absurd h
is_clock_lem (Sunrise m) h = absurd h
is_clock_lem (Sunset m) h = absurd h
is_clock_lem (Dusk m) h = absurd h

never_is : (r : Option ℕ) → is_never r ≡ true → r ≡ None
never_is None e = refl
never_is (Some m) e = absurd (true≢false (sym e))

closed_is : (b : Bool) → not b ≡ true → b ≡ false
closed_is true e = absurd (true≢false (sym e))
closed_is false e = refl

form_is : (x : Span) → allowed x ≡ true → Form x
unfolding of_clocks is_plain
form_is x e =
    let a = both (of_clocks x) (is_plain x) e in
    let c = both (is_clock x.start) (is_clock x.end) a.0 in
    let p = both (is_never x.repeats) (not x.open_end) a.1 in
    record { start = clock_is x.start c.0; end = clock_is x.end c.1; once = never_is x.repeats p.0; closed = closed_is x.open_end p.1 }

is_form : (x : Span) → Form x → allowed x ≡ true
unfolding of_clocks is_plain
is_form x f = rw (is_clock_lem x.start f.start, is_clock_lem x.end f.end, f.once, f.closed)

order_is : (end : ℕ) (x : Span) → in_order end x ≡ true → Forward x × After end x
unfolding in_order
order_is end x e = let b = both (ltb (minutes x.start) (minutes x.end)) (leb end (minutes x.start)) e in (ltb-true _ _ b.0, leb-true _ _ b.1)

is_order : (end : ℕ) (x : Span) → Forward x → After end x → in_order end x ≡ true
unfolding in_order
is_order end x f a = rw (lt-ltb _ _ f, le-leb _ _ a)

-- ---- breaks

-- no break of two: none of either
neither : (a b : Break) → first_of a b ≡ None → (a ≡ None) × (b ≡ None)
neither None b e = (refl, e)
neither (Some r) b e = cc

-- a span's
span_none : (end p : ℕ) (x : Span) → span_break end p x ≡ None → (allowed x ≡ true) × (in_order end x ≡ true)
unfolding span_break_as
span_none end p x e = go (allowed x) (in_order end x) e
  where
    go : (a b : Bool) → (if a then (if b then None else at HouseOrder p) else at HouseForm p) ≡ None → (a ≡ true) × (b ≡ true)
    go true true e = (refl, refl)
    go true false e = cc
    go false b e = cc

-- ---- items

-- items after spans that end there, and that break nothing
record Good (end : ℕ) (l : List Placed) : Type 0 where
  form : Each (Spanned Form) l
  forward : Each (Spanned Forward) l
  after : Each (Spanned (After end)) l
  rising : Rising l

-- spans after an end are after an earlier one
earlier : (l : List Placed) (end e : ℕ) → end ≤ e → Each (Spanned (After e)) l → Each (Spanned (After end)) l
earlier [] end e h a = tt
earlier ((Years r, p) ∷ l) end e h a = (tt, earlier l end e h a.1)
earlier ((Months r, p) ∷ l) end e h a = (tt, earlier l end e h a.1)
earlier ((Dates r, p) ∷ l) end e h a = (tt, earlier l end e h a.1)
earlier ((Weeks r, p) ∷ l) end e h a = (tt, earlier l end e h a.1)
earlier ((Weekdays r, p) ∷ l) end e h a = (tt, earlier l end e h a.1)
earlier ((Holidays r, p) ∷ l) end e h a = (tt, earlier l end e h a.1)
earlier ((Times x, p) ∷ l) end e h a = (omega (arith, a.0), earlier l end e h a.1)

-- every span is after 0
after_zero : (l : List Placed) → Each (Spanned (After 0)) l
after_zero [] = tt
after_zero ((Years r, p) ∷ l) = (tt, after_zero l)
after_zero ((Months r, p) ∷ l) = (tt, after_zero l)
after_zero ((Dates r, p) ∷ l) = (tt, after_zero l)
after_zero ((Weeks r, p) ∷ l) = (tt, after_zero l)
after_zero ((Weekdays r, p) ∷ l) = (tt, after_zero l)
after_zero ((Holidays r, p) ∷ l) = (tt, after_zero l)
after_zero ((Times x, p) ∷ l) = (omega arith, after_zero l)

-- with a span more
good_span_lem : (end p : ℕ) (x : Span) (l : List Placed) → span_break end p x ≡ None → Good (minutes x.end) l → Good end ((Times x, p) ∷ l)
good_span_lem end p x l e g =
    let b = span_none end p x e in
    let o = order_is end x b.1 in
    record {
      form = (form_is x b.0, g.form);
      forward = (o.0, g.forward);
      after = (o.1, earlier l end (minutes x.end) (omega (arith, o.0, o.1)) g.after);
      rising = (g.after, g.rising);
    }

items_good : (l : List Placed) (end : ℕ) → items_break end l ≡ None → Good end l
unfolding items_break
items_good [] end e = record { form = tt; forward = tt; after = tt; rising = tt }
items_good ((Years r, p) ∷ l) end e = let g = items_good l end e in record { form = (tt, g.form); forward = (tt, g.forward); after = (tt, g.after); rising = (tt, g.rising) }
items_good ((Months r, p) ∷ l) end e = let g = items_good l end e in record { form = (tt, g.form); forward = (tt, g.forward); after = (tt, g.after); rising = (tt, g.rising) }
items_good ((Dates r, p) ∷ l) end e = let g = items_good l end e in record { form = (tt, g.form); forward = (tt, g.forward); after = (tt, g.after); rising = (tt, g.rising) }
items_good ((Weeks r, p) ∷ l) end e = let g = items_good l end e in record { form = (tt, g.form); forward = (tt, g.forward); after = (tt, g.after); rising = (tt, g.rising) }
items_good ((Weekdays r, p) ∷ l) end e = let g = items_good l end e in record { form = (tt, g.form); forward = (tt, g.forward); after = (tt, g.after); rising = (tt, g.rising) }
items_good ((Holidays r, p) ∷ l) end e = let g = items_good l end e in record { form = (tt, g.form); forward = (tt, g.forward); after = (tt, g.after); rising = (tt, g.rising) }
items_good ((Times x, p) ∷ l) end e = let n = neither (span_break end p x) (items_break (minutes x.end) l) e in good_span_lem end p x l n.0 (items_good l (minutes x.end) n.1)

good_items_lem : (l : List Placed) (end : ℕ) → Good end l → items_break end l ≡ None
unfolding items_break span_break_as
good_items_lem [] end g = refl
good_items_lem ((Years r, p) ∷ l) end g = good_items_lem l end (record { form = g.form.1; forward = g.forward.1; after = g.after.1; rising = g.rising.1 })
good_items_lem ((Months r, p) ∷ l) end g = good_items_lem l end (record { form = g.form.1; forward = g.forward.1; after = g.after.1; rising = g.rising.1 })
good_items_lem ((Dates r, p) ∷ l) end g = good_items_lem l end (record { form = g.form.1; forward = g.forward.1; after = g.after.1; rising = g.rising.1 })
good_items_lem ((Weeks r, p) ∷ l) end g = good_items_lem l end (record { form = g.form.1; forward = g.forward.1; after = g.after.1; rising = g.rising.1 })
good_items_lem ((Weekdays r, p) ∷ l) end g = good_items_lem l end (record { form = g.form.1; forward = g.forward.1; after = g.after.1; rising = g.rising.1 })
good_items_lem ((Holidays r, p) ∷ l) end g = good_items_lem l end (record { form = g.form.1; forward = g.forward.1; after = g.after.1; rising = g.rising.1 })
good_items_lem ((Times x, p) ∷ l) end g =
    rw (is_form x g.form.0, is_order end x g.forward.0 g.after.0)
    (good_items_lem l (minutes x.end) (record { form = g.form.1; forward = g.forward.1; after = g.rising.0; rising = g.rising.1 }))

-- ---- rules

separator_none : (k p : ℕ) → separator_break k p ≡ None → k ≡ 0
unfolding separator_break
separator_none k p e = go (eqb k 0) refl e
  where
    go : (t : Bool) → eqb k 0 ≡ t → (if t then None else at HouseForm p) ≡ None → k ≡ 0
    go true h e = eqb-true k 0 h
    go false h e = cc

rule_keeps : (r : Rule) → rule_break r ≡ None → Keeps r
rule_keeps r e =
    let n = neither (separator_break r.0.separator r.0.place) (items_break 0 r.1) e in
    let g = items_good r.1 0 n.1 in
    record { semicolon = separator_none r.0.separator r.0.place n.0; form = g.form; forward = g.forward; rising = g.rising }

keeps_rule : (r : Rule) → Keeps r → rule_break r ≡ None
unfolding separator_break
keeps_rule r k = rw k.semicolon (good_items_lem r.1 0 (record { form = k.form; forward = k.forward; after = after_zero r.1; rising = k.rising }))

rules_keep : (l : List Rule) → rules_break l ≡ None → Each Keeps l
unfolding rules_break
rules_keep [] e = tt
rules_keep (r ∷ l) e = let n = neither (rule_break r) (rules_break l) e in (rule_keeps r n.0, rules_keep l n.1)

keep_rules : (l : List Rule) → Each Keeps l → rules_break l ≡ None
unfolding rules_break
keep_rules [] k = refl
keep_rules (r ∷ l) k = rw (keeps_rule r k.0) (keep_rules l k.1)

pub exactly : Exactly
exactly l = (rules_keep l, keep_rules l)
