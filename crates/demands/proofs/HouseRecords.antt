-- The sentences of the house profile over rules are those over their records.
use Rattle.std.specs.Prelude.{None, Option, Some}
use Prim.Native.Nat.{ℕ, ◌<◌}
use mathlib.Core.Bool.{Bool, true, false}
use mathlib.Core.List.{List, [], ◌∷◌, ◌++◌, map}
use mathlib.Core.Logic.{inl, inr}
use mathlib.Core.Path.{◌≡◌, refl}
use native.Mathlib.Omega.{arith}
use lib.IntN.{ℤ, pos}
use lib.ListN.{set}
use Rattle.records.specs.Words.{record16, time_words, repeat_word, bit, words_of, Placed, head_words, item_record}
use Rattle.records.specs.declared.Time.{Time}
use Rattle.records.specs.declared.Time.TheVariants.{Fixed, Dawn, Sunrise, Sunset, Dusk}
use Rattle.records.specs.declared.Span.{Span}
use Rattle.records.specs.declared.Item.{Item}
use Rattle.records.specs.declared.Item.TheVariants.{Years, Months, Dates, Weeks, Weekdays, Holidays, Times}
use Rattle.rules.specs.Rules.{Rule}
use Rattle.records.specs.declared.Head.{Head}
use Rattle.house.specs.Spans.{minutes}
use Rattle.house.specs.Profile.{Each, Spanned, Clock, Form, Forward, After, Keeps}
use Rattle.house.specs.Profile as profile
use Rattle.text_rules.specs.Texts.{records}
use Rattle.demands.specs.Houses.{AtMost, word, IsHead, IsSpan, StartAfter, Rising, SpanKeeps, Profile}

-- ---- a span's record

-- the record of a span of these times
abbrev span_record : Time → Time → Option ℕ → Bool → Bool → ℕ → List ℤ
span_record t u r open_end alone p = set (record16 (pos 8 ∷ time_words t ++ time_words u ++ (repeat_word r ∷ bit open_end ∷ bit alone ∷ []))) 15 (pos p)

-- what the sentences say of a span, they say of its record
to_record : (t u : Time) (r : Option ℕ) (open_end alone : Bool) (p : ℕ) → Clock t → Clock u → r ≡ None → open_end ≡ false → minutes t < minutes u → SpanKeeps (span_record t u r open_end alone p)
unfolding minutes
to_record (Fixed a) (Fixed b) r open_end alone p h k e f l =
    rw (e, f) (record { clock_start = refl; clock_end = refl; start_midnight = h; end_midnight = k; no_repeat = refl; no_open_end = refl; forward = l })
to_record (Fixed a) (Dawn m) r open_end alone p h k e f l = absurd k
to_record (Fixed a) (Sunrise m) r open_end alone p h k e f l = absurd k
to_record (Fixed a) (Sunset m) r open_end alone p h k e f l = absurd k
to_record (Fixed a) (Dusk m) r open_end alone p h k e f l = absurd k
to_record (Dawn m) u r open_end alone p h k e f l = absurd h
to_record (Sunrise m) u r open_end alone p h k e f l = absurd h
to_record (Sunset m) u r open_end alone p h k e f l = absurd h
to_record (Dusk m) u r open_end alone p h k e f l = absurd h

-- two numbers that differ are not one word
two_words : {a b : ℕ} → (a ≡ b → ⊥) → pos a ≡ pos b → ⊥
two_words h e = h cc

never_of : (r : Option ℕ) → repeat_word r ≡ repeat_word None → r ≡ None
never_of None e = refl
never_of (Some m) e = absurd (let z : ◌≡◌ {A = ℕ} 0 1 = cc in omega arith)

closed_of : (b : Bool) → bit b ≡ pos 0 → b ≡ false
closed_of true e = absurd (two_words {a = 1} {b = 0} (λ q. omega arith) e)
closed_of false e = refl

-- and what they say of the record, of the span
record SpanSentences (t u : Time) (r : Option ℕ) (open_end : Bool) : Type 0 where
  start : Clock t
  end : Clock u
  once : r ≡ None
  closed : open_end ≡ false
  forward : minutes t < minutes u

of_record : (t u : Time) (r : Option ℕ) (open_end alone : Bool) (p : ℕ) → SpanKeeps (span_record t u r open_end alone p) → SpanSentences t u r open_end
unfolding minutes
of_record (Fixed a) (Fixed b) r open_end alone p k =
    record { start = k.start_midnight; end = k.end_midnight; once = never_of r k.no_repeat; closed = closed_of open_end k.no_open_end; forward = k.forward }
of_record (Fixed a) (Dawn m) r open_end alone p k = absurd (two_words {a = 1} {b = 0} (λ q. omega arith) k.clock_end)
of_record (Fixed a) (Sunrise m) r open_end alone p k = absurd (two_words {a = 2} {b = 0} (λ q. omega arith) k.clock_end)
of_record (Fixed a) (Sunset m) r open_end alone p k = absurd (two_words {a = 3} {b = 0} (λ q. omega arith) k.clock_end)
of_record (Fixed a) (Dusk m) r open_end alone p k = absurd (two_words {a = 4} {b = 0} (λ q. omega arith) k.clock_end)
of_record (Dawn m) u r open_end alone p k = absurd (two_words {a = 1} {b = 0} (λ q. omega arith) k.clock_start)
of_record (Sunrise m) u r open_end alone p k = absurd (two_words {a = 2} {b = 0} (λ q. omega arith) k.clock_start)
of_record (Sunset m) u r open_end alone p k = absurd (two_words {a = 3} {b = 0} (λ q. omega arith) k.clock_start)
of_record (Dusk m) u r open_end alone p k = absurd (two_words {a = 4} {b = 0} (λ q. omega arith) k.clock_start)

-- the words of its start and end are their minutes
start_word : (t u : Time) (r : Option ℕ) (open_end alone : Bool) (p : ℕ) → Clock t → word 2 (span_record t u r open_end alone p) ≡ pos (minutes t)
unfolding minutes
start_word (Fixed a) u r open_end alone p h = refl
start_word (Dawn m) u r open_end alone p h = absurd h
start_word (Sunrise m) u r open_end alone p h = absurd h
start_word (Sunset m) u r open_end alone p h = absurd h
start_word (Dusk m) u r open_end alone p h = absurd h

end_word : (t u : Time) (r : Option ℕ) (open_end alone : Bool) (p : ℕ) → Clock t → Clock u → word 4 (span_record t u r open_end alone p) ≡ pos (minutes u)
unfolding minutes
end_word (Fixed a) (Fixed b) r open_end alone p h k = refl
end_word (Fixed a) (Dawn m) r open_end alone p h k = absurd k
end_word (Fixed a) (Sunrise m) r open_end alone p h k = absurd k
end_word (Fixed a) (Sunset m) r open_end alone p h k = absurd k
end_word (Fixed a) (Dusk m) r open_end alone p h k = absurd k
end_word (Dawn m) u r open_end alone p h k = absurd h
end_word (Sunrise m) u r open_end alone p h k = absurd h
end_word (Sunset m) u r open_end alone p h k = absurd h
end_word (Dusk m) u r open_end alone p h k = absurd h

-- ---- an item's record

-- an item is a span, or its record is none and no sentence speaks of it
data View : Placed → Type 1 where
  span : (x : Span) (p : ℕ) → View (Times x, p)
  other : {a : Placed} → (IsSpan (item_record a) → ⊥) → ((P : Span → Type 0) → Spanned P a) → View a

view : (a : Item) (p : ℕ) → View (a, p)
unfolding item_record words_of
view (Years r) p = other (two_words {a = 2} {b = 8} (λ q. omega arith)) (λ P. tt)
view (Months r) p = other (two_words {a = 3} {b = 8} (λ q. omega arith)) (λ P. tt)
view (Dates r) p = other (two_words {a = 4} {b = 8} (λ q. omega arith)) (λ P. tt)
view (Weeks r) p = other (two_words {a = 5} {b = 8} (λ q. omega arith)) (λ P. tt)
view (Weekdays r) p = other (two_words {a = 6} {b = 8} (λ q. omega arith)) (λ P. tt)
view (Holidays r) p = other (two_words {a = 7} {b = 8} (λ q. omega arith)) (λ P. tt)
view (Times x) p = span x p

-- it is no head
no_head : (a : Item) (p : ℕ) → IsHead (item_record (a, p)) → ⊥
unfolding item_record words_of
no_head (Years r) p = two_words {a = 2} {b = 1} (λ q. omega arith)
no_head (Months r) p = two_words {a = 3} {b = 1} (λ q. omega arith)
no_head (Dates r) p = two_words {a = 4} {b = 1} (λ q. omega arith)
no_head (Weeks r) p = two_words {a = 5} {b = 1} (λ q. omega arith)
no_head (Weekdays r) p = two_words {a = 6} {b = 1} (λ q. omega arith)
no_head (Holidays r) p = two_words {a = 7} {b = 1} (λ q. omega arith)
no_head (Times x) p = two_words {a = 8} {b = 1} (λ q. omega arith)

-- what the sentences say of an item, in either form
abbrev ItemKeeps : Placed → Type 0
ItemKeeps a = Spanned Form a × Spanned Forward a

item_to : (a : Placed) → View a → ItemKeeps a → IsSpan (item_record a) → SpanKeeps (item_record a)
unfolding item_record words_of
item_to _ (span x p) h e = to_record x.start x.end x.repeats x.open_end x.point p h.0.start h.0.end h.0.once h.0.closed h.1
item_to _ (other f g) h e = absurd (f e)

item_of : (a : Placed) → View a → (IsSpan (item_record a) → SpanKeeps (item_record a)) → ItemKeeps a
unfolding item_record words_of
item_of _ (span x p) h =
    let k = of_record x.start x.end x.repeats x.open_end x.point p (h refl) in
    (record { start = k.start; end = k.end; once = k.once; closed = k.closed }, k.forward)
item_of _ (other f g) h = (g Form, g Forward)

-- that it starts no earlier than e
after_to : (e : ℕ) (a : Placed) → View a → Spanned Form a → Spanned (After e) a → IsSpan (item_record a) → AtMost (pos e) (word 2 (item_record a))
unfolding item_record words_of
after_to e _ (span x p) f h i = rw (start_word x.start x.end x.repeats x.open_end x.point p f.start) h
after_to e _ (other k g) f h i = absurd (k i)

after_of : (e : ℕ) (a : Placed) → View a → Spanned Form a → (IsSpan (item_record a) → AtMost (pos e) (word 2 (item_record a))) → Spanned (After e) a
unfolding item_record words_of
after_of e _ (span x p) f h = rw (start_word x.start x.end x.repeats x.open_end x.point p f.start) at (h refl)
after_of e _ (other k g) f h = g (After e)

-- ---- items

-- where no span after them starts before e, these and those do not
starts_to : (e : ℕ) (l : List Placed) (rs : List (List ℤ)) → Each (Spanned Form) l → Each (Spanned (After e)) l → StartAfter (pos e) rs → StartAfter (pos e) (map item_record l ++ rs)
starts_to e [] rs f h k = k
starts_to e (a ∷ l) rs f h k = inr (after_to e a (view a.0 a.1) f.0 h.0, starts_to e l rs f.1 h.1 k)

starts_of : (e : ℕ) (l : List Placed) (rs : List (List ℤ)) → Each (Spanned Form) l → StartAfter (pos e) (map item_record l ++ rs) → Each (Spanned (After e)) l
starts_of e [] rs f h = tt
starts_of e (a ∷ l) rs f (inl h) = absurd (no_head a.0 a.1 h)
starts_of e (a ∷ l) rs f (inr h) = (after_of e a (view a.0 a.1) f.0 h.0, starts_of e l rs f.1 h.1)

-- the records of items, and records rs after them, of which the first is a head
module _ (rs : List (List ℤ)) (headed : (e : ℤ) → StartAfter e rs) where
  rising_item : (a : Placed) → View a → (l : List Placed) → Spanned Form a → Each (Spanned Form) l → Spanned (λ x. Each (Spanned (After (minutes x.end))) l) a →
      IsSpan (item_record a) → StartAfter (word 4 (item_record a)) (map item_record l ++ rs)
  unfolding item_record words_of
  rising_item _ (span x p) l f g h i = rw (end_word x.start x.end x.repeats x.open_end x.point p f.start f.end) (starts_to (minutes x.end) l rs g h (headed (pos (minutes x.end))))
  rising_item _ (other k g) l f o h i = absurd (k i)

  rising_to : (l : List Placed) → Each (Spanned Form) l → profile.Rising l → Rising rs → Rising (map item_record l ++ rs)
  rising_to [] f h k = k
  rising_to (a ∷ l) f h k = (rising_item a (view a.0 a.1) l f.0 f.1 h.0, rising_to l f.1 h.1 k)

  item_rising : (a : Placed) → View a → (l : List Placed) → Spanned Form a → Each (Spanned Form) l → (IsSpan (item_record a) →
      StartAfter (word 4 (item_record a)) (map item_record l ++ rs)) → Spanned (λ x. Each (Spanned (After (minutes x.end))) l) a
  unfolding item_record words_of
  item_rising _ (span x p) l f g h = starts_of (minutes x.end) l rs g (rw (end_word x.start x.end x.repeats x.open_end x.point p f.start f.end) at (h refl))
  item_rising _ (other k g) l f o h = g _

  rising_of : (l : List Placed) → Each (Spanned Form) l → Rising (map item_record l ++ rs) → profile.Rising l × Rising rs
  rising_of [] f h = (tt, h)
  rising_of (a ∷ l) f h = let k = rising_of l f.1 h.1 in ((item_rising a (view a.0 a.1) l f.0 f.1 h.0, k.0), k.1)

-- what holds of each of two lists, of each of both
each_append : {A : Type 0} (P : A → Type 0) (l k : List A) → Each P l → Each P k → Each P (l ++ k)
each_append P [] k h g = g
each_append P (a ∷ l) k h g = (h.0, each_append P l k h.1 g)

each_first : {A : Type 0} (P : A → Type 0) (l k : List A) → Each P (l ++ k) → Each P l × Each P k
each_first P [] k h = (tt, h)
each_first P (a ∷ l) k h = let g = each_first P l k h.1 in ((h.0, g.0), g.1)

-- the sentences of records
abbrev Semicolon : List ℤ → Type 0
Semicolon r = IsHead r → word 1 r ≡ pos 0

abbrev Kept : List ℤ → Type 0
Kept r = IsSpan r → SpanKeeps r

items_semicolons : (l : List Placed) → Each Semicolon (map item_record l)
items_semicolons [] = tt
items_semicolons (a ∷ l) = (λ h. absurd (no_head a.0 a.1 h), items_semicolons l)

items_kept : (l : List Placed) → Each (Spanned Form) l → Each (Spanned Forward) l → Each Kept (map item_record l)
items_kept [] f h = tt
items_kept (a ∷ l) f h = (item_to a (view a.0 a.1) (f.0, h.0), items_kept l f.1 h.1)

items_keep : (l : List Placed) → Each Kept (map item_record l) → Each (Spanned Form) l × Each (Spanned Forward) l
items_keep [] h = (tt, tt)
items_keep (a ∷ l) h =
    let k = item_of a (view a.0 a.1) h.0 in
    let g = items_keep l h.1 in
    ((k.0, g.0), (k.1, g.1))

-- ---- rules

-- a head is a head and no span
is_head_lem : (h : Head) → IsHead (head_words h)
unfolding head_words
is_head_lem h = refl

no_span : (h : Head) → IsSpan (head_words h) → ⊥
unfolding head_words
no_span h = two_words {a = 1} {b = 8} (λ q. omega arith)

separator_word : (h : Head) → word 1 (head_words h) ≡ pos h.separator
unfolding head_words
separator_word h = refl

-- after rules no span of theirs starts before another's ends
heads : (l : List Rule) (e : ℤ) → StartAfter e (records l)
unfolding records
heads [] e = tt
heads (r ∷ l) e = inl (is_head_lem r.0)

pub keeps_to : (l : List Rule) → Each Keeps l → Profile (records l)
unfolding records
keeps_to [] h = record { semicolons = tt; spans = tt; rising = tt }
keeps_to (r ∷ l) h =
    let k = keeps_to l h.1 in
    let q = h.0 in
    record {
      semicolons = (λ _. rw (separator_word r.0, q.semicolon), each_append Semicolon (map item_record r.1) (records l) (items_semicolons r.1) k.semicolons);
      spans = (λ i. absurd (no_span r.0 i), each_append Kept (map item_record r.1) (records l) (items_kept r.1 q.form q.forward) k.spans);
      rising = (λ i. absurd (no_span r.0 i), rising_to (records l) (heads l) r.1 q.form q.rising k.rising);
    }

pub keeps_of : (l : List Rule) → Profile (records l) → Each Keeps l
unfolding records
keeps_of [] h = tt
keeps_of (r ∷ l) h =
    let a = each_first Semicolon (map item_record r.1) (records l) h.semicolons.1 in
    let b = each_first Kept (map item_record r.1) (records l) h.spans.1 in
    let g = items_keep r.1 b.0 in
    let c = rising_of (records l) (heads l) r.1 g.0 h.rising.1 in (
      record { semicolon = word_number (h.semicolons.0 (is_head_lem r.0)); form = g.0; forward = g.1; rising = c.0 },
      keeps_of l (record { semicolons = a.1; spans = b.1; rising = c.1 }),
    )
  where
    word_number : word 1 (head_words r.0) ≡ pos 0 → r.0.separator ≡ 0
    word_number e = let z : pos r.0.separator ≡ pos 0 = rw (separator_word r.0) at e in cc
