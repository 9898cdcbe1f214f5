-- A character's first byte tells its row of the table: rows stand in rising order, and no two begin with one byte.
use Prim.Native.Nat.{ℕ, ◌+◌, ◌≤◌, ◌<◌}
use mathlib.Core.List.{List}
use mathlib.Core.Path.{◌≡◌, ◌∙◌}
use native.Mathlib.Omega.{arith}
use native.Mathlib.Decide.{dec_lt}
use lib.ListN.{length, get_or}
use Rattle.names.specs.Read.{none, Reader, ◌>>◌, ◌or◌}
use Rattle.names.proofs.Laws.{within_below, within_above, or_none}
use Rattle.utf8.specs.Utf8.{octet, utf8_tail, utf8_2, utf8_3, utf8_4, longer, two_more, three_more}
use Rattle.utf8.proofs.Laws.{octet_is, octet_not}

-- m finds nothing at a byte below lo (and so nothing past the text's end), or above hi
pub record From (lo : ℕ) (m : Reader (Unit {0})) : Type 0 where
  pub below : (s : List ℕ) (i : ℕ) → get_or s i 0 < lo → m s i ≡ none

pub record To (hi : ℕ) (m : Reader (Unit {0})) : Type 0 where
  pub above : (s : List ℕ) (i : ℕ) → hi < get_or s i 0 → m s i ≡ none

-- a row: a first byte from lo to hi, and what follows it
abbrev row : ℕ → ℕ → Reader (Unit {0}) → Reader (Unit {0})
row lo hi m = octet lo hi >> m

module _ (lo hi : ℕ) (m : Reader (Unit {0})) where
  row_from : From lo (row lo hi m)
  row_from = record { below = λ s i p. rw (octet_not lo hi s i (within_below lo hi _ p)) }

  row_to : lo ≤ hi → To hi (row lo hi m)
  row_to h = record { above = λ s i p. rw (octet_not lo hi s i (within_above lo hi _ (omega arith) p)) }

  row_is : (s : List ℕ) (i : ℕ) → i < length s → lo ≤ get_or s i 0 → get_or s i 0 ≤ hi → row lo hi m s i ≡ m s (i + 1)
  row_is s i h a b = rw (octet_is lo hi s i h a b)

-- rows in rising order
module _ {x y : ℕ} {m n : Reader (Unit {0})} where
  or_from : From x m → From y n → x ≤ y → From x (m or n)
  or_from p q h = record { below = λ s i e. rw (p.below s i e) (q.below s i (omega arith)) }

  or_to : To x m → To y n → x ≤ y → To y (m or n)
  or_to p q h = record { above = λ s i e. rw (p.above s i (omega arith)) (q.above s i e) }

-- a byte's row is found before those that begin above it, and after those that end below it
sooner : {x : ℕ} (m : Reader (Unit {0})) {n : Reader (Unit {0})} → From x n → (s : List ℕ) (i : ℕ) → get_or s i 0 < x → (m or n) s i ≡ m s i
sooner m {n} p s i e = or_none s i (m s i) n (p.below s i e)

later : {x : ℕ} {m : Reader (Unit {0})} (n : Reader (Unit {0})) → To x m → (s : List ℕ) (i : ℕ) → x < get_or s i 0 → (m or n) s i ≡ n s i
later n p s i e = rw (p.above s i e)

-- ---- the rows of UTF8-3 and UTF8-4, and those from one on

abbrev row_e0 : Reader (Unit {0})
row_e0 = row 0xE0 0xE0 (two_more 0xA0 0xBF)

abbrev row_e1 : Reader (Unit {0})
row_e1 = row 0xE1 0xEC (two_more 0x80 0xBF)

abbrev row_ed : Reader (Unit {0})
row_ed = row 0xED 0xED (two_more 0x80 0x9F)

abbrev row_ee : Reader (Unit {0})
row_ee = row 0xEE 0xEF (two_more 0x80 0xBF)

abbrev row_f0 : Reader (Unit {0})
row_f0 = row 0xF0 0xF0 (three_more 0x90 0xBF)

abbrev row_f1 : Reader (Unit {0})
row_f1 = row 0xF1 0xF3 (three_more 0x80 0xBF)

abbrev row_f4 : Reader (Unit {0})
row_f4 = row 0xF4 0xF4 (three_more 0x80 0x8F)

from_ed : From 0xED (row_ed or row_ee)
from_ed = or_from (row_from 0xED 0xED (two_more 0x80 0x9F)) (row_from 0xEE 0xEF (two_more 0x80 0xBF)) (omega arith)

from_e1 : From 0xE1 (row_e1 or row_ed or row_ee)
from_e1 = or_from (row_from 0xE1 0xEC (two_more 0x80 0xBF)) from_ed (omega arith)

from_3 : From 0xE0 utf8_3
unfolding utf8_3 utf8_tail
from_3 = or_from (row_from 0xE0 0xE0 (two_more 0xA0 0xBF)) from_e1 (omega arith)

from_f1 : From 0xF1 (row_f1 or row_f4)
from_f1 = or_from (row_from 0xF1 0xF3 (three_more 0x80 0xBF)) (row_from 0xF4 0xF4 (three_more 0x80 0x8F)) (omega arith)

from_4 : From 0xF0 utf8_4
unfolding utf8_4 utf8_tail
from_4 = or_from (row_from 0xF0 0xF0 (three_more 0x90 0xBF)) from_f1 (omega arith)

from_34 : From 0xE0 (utf8_3 or utf8_4)
from_34 = or_from from_3 from_4 (omega arith)

-- a longer character begins with C2 to F4
pub longer_from : From 0xC2 longer
unfolding longer utf8_2
longer_from = or_from (row_from 0xC2 0xDF utf8_tail) from_34 (omega arith)

to_2 : To 0xDF utf8_2
unfolding utf8_2
to_2 = row_to 0xC2 0xDF utf8_tail (omega arith)

to_3 : To 0xEF utf8_3
unfolding utf8_3 utf8_tail
to_3 =
    or_to (row_to 0xE0 0xE0 (two_more 0xA0 0xBF) (omega arith))
    (or_to (row_to 0xE1 0xEC (two_more 0x80 0xBF) (omega arith))
    (or_to (row_to 0xED 0xED (two_more 0x80 0x9F) (omega arith)) (row_to 0xEE 0xEF (two_more 0x80 0xBF) (omega arith)) (omega arith))
    (omega arith))
    (omega arith)

to_4 : To 0xF4 utf8_4
unfolding utf8_4 utf8_tail
to_4 =
    or_to (row_to 0xF0 0xF0 (three_more 0x90 0xBF) (omega arith))
    (or_to (row_to 0xF1 0xF3 (three_more 0x80 0xBF) (omega arith)) (row_to 0xF4 0xF4 (three_more 0x80 0x8F) (omega arith)) (omega arith))
    (omega arith)

pub longer_to : To 0xF4 longer
unfolding longer
longer_to = or_to to_2 (or_to to_3 to_4 (omega arith)) (omega arith)

-- ---- by the first byte

module _ (s : List ℕ) (i : ℕ) (h : i < length s) where
  pub at_c2 : 0xC2 ≤ get_or s i 0 → get_or s i 0 ≤ 0xDF → longer s i ≡ utf8_tail s (i + 1)
  unfolding longer utf8_2
  at_c2 a b = sooner utf8_2 from_34 s i (omega arith) ∙ row_is 0xC2 0xDF utf8_tail s i h a b

  in_3 : 0xE0 ≤ get_or s i 0 → get_or s i 0 ≤ 0xEF → longer s i ≡ utf8_3 s i
  unfolding longer
  in_3 a b = later (utf8_3 or utf8_4) to_2 s i (omega arith) ∙ sooner utf8_3 from_4 s i (omega arith)

  in_4 : 0xF0 ≤ get_or s i 0 → longer s i ≡ utf8_4 s i
  unfolding longer
  in_4 a = later (utf8_3 or utf8_4) to_2 s i (omega arith) ∙ later utf8_4 to_3 s i (omega arith)

  pub at_e0 : get_or s i 0 ≡ 0xE0 → longer s i ≡ two_more 0xA0 0xBF s (i + 1)
  unfolding utf8_3 utf8_tail
  at_e0 e = in_3 (omega arith) (omega arith) ∙ sooner row_e0 from_e1 s i (omega arith) ∙ row_is 0xE0 0xE0 (two_more 0xA0 0xBF) s i h (omega arith) (omega arith)

  -- from E1 on
  on_3 : 0xE1 ≤ get_or s i 0 → get_or s i 0 ≤ 0xEF → longer s i ≡ (row_e1 or row_ed or row_ee) s i
  unfolding utf8_3 utf8_tail
  on_3 a b = in_3 (omega arith) b ∙ later (row_e1 or row_ed or row_ee) (row_to 0xE0 0xE0 (two_more 0xA0 0xBF) (omega arith)) s i (omega arith)

  at_e1 : 0xE1 ≤ get_or s i 0 → get_or s i 0 ≤ 0xEC → longer s i ≡ two_more 0x80 0xBF s (i + 1)
  at_e1 a b = on_3 a (omega arith) ∙ sooner row_e1 from_ed s i (omega arith) ∙ row_is 0xE1 0xEC (two_more 0x80 0xBF) s i h a b

  -- from ED on
  onto_3 : 0xED ≤ get_or s i 0 → get_or s i 0 ≤ 0xEF → longer s i ≡ (row_ed or row_ee) s i
  onto_3 a b = on_3 (omega arith) b ∙ later (row_ed or row_ee) (row_to 0xE1 0xEC (two_more 0x80 0xBF) (omega arith)) s i (omega arith)

  pub at_ed : get_or s i 0 ≡ 0xED → longer s i ≡ two_more 0x80 0x9F s (i + 1)
  at_ed e = onto_3 (omega arith) (omega arith) ∙ sooner row_ed (row_from 0xEE 0xEF (two_more 0x80 0xBF)) s i (omega arith) ∙ row_is 0xED 0xED (two_more 0x80 0x9F) s i h (omega arith) (omega arith)

  at_ee : 0xEE ≤ get_or s i 0 → get_or s i 0 ≤ 0xEF → longer s i ≡ two_more 0x80 0xBF s (i + 1)
  at_ee a b = onto_3 (omega arith) b ∙ later row_ee (row_to 0xED 0xED (two_more 0x80 0x9F) (omega arith)) s i (omega arith) ∙ row_is 0xEE 0xEF (two_more 0x80 0xBF) s i h a b

  -- two tails follow E1 to EF but ED
  pub at_3 : 0xE1 ≤ get_or s i 0 → get_or s i 0 ≤ 0xEF → (get_or s i 0 ≡ 0xED → ⊥) → longer s i ≡ two_more 0x80 0xBF s (i + 1)
  at_3 a b n = go (dec_lt (get_or s i 0) 0xED)
    where
      go : Dec (get_or s i 0 < 0xED) → longer s i ≡ two_more 0x80 0xBF s (i + 1)
      go (yes l) = at_e1 a (omega arith)
      go (no l) = at_ee (omega arith) b

  pub at_f0 : get_or s i 0 ≡ 0xF0 → longer s i ≡ three_more 0x90 0xBF s (i + 1)
  unfolding utf8_4 utf8_tail
  at_f0 e = in_4 (omega arith) ∙ sooner row_f0 from_f1 s i (omega arith) ∙ row_is 0xF0 0xF0 (three_more 0x90 0xBF) s i h (omega arith) (omega arith)

  -- from F1 on
  on_4 : 0xF1 ≤ get_or s i 0 → longer s i ≡ (row_f1 or row_f4) s i
  unfolding utf8_4 utf8_tail
  on_4 a = in_4 (omega arith) ∙ later (row_f1 or row_f4) (row_to 0xF0 0xF0 (three_more 0x90 0xBF) (omega arith)) s i (omega arith)

  pub at_f1 : 0xF1 ≤ get_or s i 0 → get_or s i 0 ≤ 0xF3 → longer s i ≡ three_more 0x80 0xBF s (i + 1)
  at_f1 a b = on_4 a ∙ sooner row_f1 (row_from 0xF4 0xF4 (three_more 0x80 0x8F)) s i (omega arith) ∙ row_is 0xF1 0xF3 (three_more 0x80 0xBF) s i h a b

  pub at_f4 : get_or s i 0 ≡ 0xF4 → longer s i ≡ three_more 0x80 0x8F s (i + 1)
  at_f4 e = on_4 (omega arith) ∙ later row_f4 (row_to 0xF1 0xF3 (three_more 0x80 0xBF) (omega arith)) s i (omega arith) ∙ row_is 0xF4 0xF4 (three_more 0x80 0x8F) s i h (omega arith) (omega arith)
