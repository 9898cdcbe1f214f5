-- No second answer meets a promise: an answer is known by what it says.
use Rattle.std.specs.Prelude.{ℕ, Bool, Option, Some, None, ◌==◌, if◌then◌else◌}
use mathlib.Core.Path.{◌≡◌, refl, sym, ap, ◌∙◌}
use Rattle.names.specs.Read.{Read, got}
use Rattle.names.specs.Names as names
use Rattle.names.specs.Seen.{seen_step, seen, seen_num, seen_word, seen_named, seen_spelled, number_of, numbers, Reads, ReadsName}
use Rattle.names.specs.declared.Cursor.{Cursor}
use Rattle.names.specs.declared.NameKind.{NameKind}
use Rattle.names.specs.declared.NameKind.TheVariants as kind
use Rattle.names.specs.declared.Word.{Word}
use Rattle.names.specs.declared.Named.{Named}
use Rattle.names.specs.declared.Spelled.{Spelled}

pub step_one_answer : (x y : Option Cursor) → seen_step x ≡ seen_step y → x ≡ y
step_one_answer (Some c) (Some d) e = let h : c.at ≡ d.at = cc in ap (λ (i : ℕ). Some (record { at = i })) h
step_one_answer (Some c) None e = cc
step_one_answer None (Some d) e = cc
step_one_answer None None e = refl

-- what is seen of values tells the answers apart, where it tells the values apart
pub seen_one_answer : {A B : Type 0} (f : A → B) → ((a b : A) → f a ≡ f b → a ≡ b) → (x y : Option (A × Cursor)) → seen f x ≡ seen f y → x ≡ y
seen_one_answer f h (Some x) (Some y) e = let i : x.1.at ≡ y.1.at = cc in let v : f x.0 ≡ f y.0 = cc in rw (h x.0 y.0 v, i)
seen_one_answer f h (Some x) None e = cc
seen_one_answer f h None (Some y) e = cc
seen_one_answer f h None None e = refl

-- the kind that a number names
abbrev kind_by : ℕ → NameKind
kind_by n =
    if n == 1 then kind.Weekday
    else if n == 2 then kind.Month
    else if n == 3 then kind.Event
    else if n == 4 then kind.Easter
    else if n == 5 then kind.Modifier
    else if n == 6 then kind.Holiday
    else if n == 7 then kind.Week
    else kind.Day

-- a kind is known by its number
kind_back : (k : NameKind) → kind_by (number_of k) ≡ k
kind_back kind.Weekday = refl
kind_back kind.Month = refl
kind_back kind.Event = refl
kind_back kind.Easter = refl
kind_back kind.Modifier = refl
kind_back kind.Holiday = refl
kind_back kind.Week = refl
kind_back kind.Day = refl

pub kind_one_answer : (k l : NameKind) → number_of k ≡ number_of l → k ≡ l
kind_one_answer k l e = sym (kind_back k) ∙ ap kind_by e ∙ kind_back l

-- and a name by its numbers
numbers_one_answer : (w x : Word) → numbers w ≡ numbers x → w ≡ x
numbers_one_answer w x e =
    let k : w.kind ≡ x.kind = kind_one_answer w.kind x.kind (ap (λ (p : ℕ × ℕ). p.0) e) in
    let v : w.value ≡ x.value = ap (λ (p : ℕ × ℕ). p.1) e in
    rw (k, v)

pub num_one_answer : (x y : Option (ℕ × Cursor)) → seen_num x ≡ seen_num y → x ≡ y
num_one_answer = seen_one_answer (λ n. n) (λ a b e. e)

pub word_one_answer : (x y : Option (Word × Cursor)) → seen_word x ≡ seen_word y → x ≡ y
word_one_answer = seen_one_answer numbers numbers_one_answer

pub named_one_answer : (x y : Option (Named × Cursor)) → seen_named x ≡ seen_named y → x ≡ y
named_one_answer = seen_one_answer (λ n. (n.value, n.odd)) (λ a b e.
    let v : a.value ≡ b.value = ap (λ (p : ℕ × Bool). p.0) e in
    let o : a.odd ≡ b.odd = ap (λ (p : ℕ × Bool). p.1) e in
    rw (v, o))

pub spelled_one_answer : (x y : Option (Spelled × Cursor)) → seen_spelled x ≡ seen_spelled y → x ≡ y
spelled_one_answer = seen_one_answer (λ n. (numbers n.word, n.odd)) (λ a b e.
    let w : a.word ≡ b.word = numbers_one_answer a.word b.word (ap (λ (p : names.Word × Bool). p.0) e) in
    let o : a.odd ≡ b.odd = ap (λ (p : names.Word × Bool). p.1) e in
    rw (w, o))

-- the contract of a reader of names of a kind
pub name_one_answer : {top : ℕ} {m : Read (ℕ × Bool)} (x y : Option (Named × Cursor)) → ReadsName top m x → ReadsName top m y → x ≡ y
name_one_answer x y p q = named_one_answer x y (sym p.is ∙ q.is)

-- the contract of a reader of numbers
pub reads_one_answer : {top : ℕ} {m : Read ℕ} (x y : Option (ℕ × Cursor)) → Reads top m x → Reads top m y → x ≡ y
reads_one_answer x y p q = num_one_answer x y (sym p.is ∙ q.is)

-- a place after something that is always read
pub place_one_answer : {m : Read (Unit {0})} (x y : Cursor) → m ≡ got tt x.at → m ≡ got tt y.at → x ≡ y
place_one_answer x y p q = let h : x.at ≡ y.at = cc in ap (λ (i : ℕ). record { at = i }) h
