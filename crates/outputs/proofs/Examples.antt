-- What the definition says, computed, of the example that document 01 shows whole, of a refusal, and of a sheet with a warning and a number below 0 (its text is tools/reference.py's).
use mathlib.Core.Path.{◌≡◌, refl}
use Rattle.names.specs.Texts.{bytes}
use Rattle.opened.proofs.Opened.{opened}
use Rattle.prints.specs.Decimals.{digits_in, decimal, signed}
use Rattle.prints.specs.Lines.{line, lines}
use Rattle.outputs.specs.Outputs.{output_of}

-- the six bytes `10:00+`
open_end : output_of (bytes "10:00+") ≡ bytes "0 0 2 0\n1 0 0 0 0 1 0 0 0 0 0 0 0 0 0 0\n8 0 600 0 1440 -1 1 0 0 0 0 0 0 0 0 0\n"
unfolding opened output_of lines line signed decimal digits_in
open_end = refl

-- an empty rule
empty_rule_lem : output_of (bytes "Mo;; Tu") ≡ bytes "11 3 0 0\n"
unfolding opened output_of lines line signed decimal digits_in
empty_rule_lem = refl

-- a warning, and an offset of -10 days
ten_days_before :
    output_of (bytes "tu; PH -10 days")
    ≡ bytes "0 0 4 1\n1 0 0 0 0 1 0 0 0 0 0 0 0 0 0 0\n6 2 2 0 31 31 0 0 0 0 0 0 0 0 0 0\n1 0 0 0 0 1 0 0 0 0 0 0 0 0 0 4\n7 1 -10 0 0 0 0 0 0 0 0 0 0 0 0 4\n"
unfolding opened output_of lines line signed decimal digits_in
ten_days_before = refl
