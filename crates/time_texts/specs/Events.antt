-- An event by the bytes of its name.
use Rattle.std.specs.Prelude.{ℕ, List, eqb, ℤ, nat_abs, if◌then◌else◌}
use Rattle.sheet_texts.specs.Texts.{Text, ◌then◌, mark, these}
use Rattle.sheet_texts.specs.Numbers.{is_minus}
use Rattle.sheet_texts.specs.Times.{plus_or_minus, clock}

-- an event of this name, and what is added to it or taken off
unfoldable pub around : List ℕ → ℤ → Text
around name x =
    if eqb (nat_abs x) 0 then these name
    else mark "(" then these name then plus_or_minus (is_minus x) then clock (nat_abs x) then mark ")"
