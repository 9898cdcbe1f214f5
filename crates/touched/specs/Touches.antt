-- Whether a day is touched: no, undecided or yes; the best and the worst of two.
use Rattle.std.specs.Prelude.{ℕ, Bool, if◌then◌else◌}
use Rattle.touched.specs.declared.Touch.{Touch}
use Rattle.touched.specs.declared.Touch.TheVariants.{No, Undecided, Yes}

-- the best: yes before undecided before no
abbrev pub best : Touch → Touch → Touch
best No b = b
best Undecided No = Undecided
best Undecided Undecided = Undecided
best Undecided Yes = Yes
best Yes b = Yes

-- the worst: no before undecided before yes
abbrev pub worst : Touch → Touch → Touch
worst No b = No
worst Undecided No = No
worst Undecided Undecided = Undecided
worst Undecided Yes = Undecided
worst Yes b = b

-- a test that is made
abbrev pub decided : Bool → Touch
decided t = if t then Yes else No

-- the word of an answer
abbrev pub touch_word : Touch → ℕ
touch_word No = 0
touch_word Yes = 1
touch_word Undecided = 2
