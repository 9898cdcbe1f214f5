-- The answer's numbers are small, and so stored as they are.
use Prim.Native.Nat.{ℕ}
use mathlib.Core.List.{List}
use mathlib.Core.Path.{sym, ap, subst}
use Rattle.sheet.specs.declared.PartAnswer.{PartAnswer}
use Rattle.sheet.proofs.Bounds.{SmallPart}
use Rattle.calls.proofs.Bounds.{part_in_small}
use Rattle.c_calls.specs.Calls.{part_numbers, part_call_in}
use Rattle.c_calls.proofs.lorukinde_read_part_in.Goals as goal

pub part_numbers-requires : goal.part_numbers-requires
unfolding part_call_in
part_numbers-requires c = let h = (let told : SmallPart c.read_part_bytes_in-part.result = subst (λ (r : PartAnswer × List ℕ). SmallPart r.0) (sym c.read_part_bytes_in-part.ensures) (part_in_small _ _ _ _) in told) in (h.same.place, h.same.records, h.same.warnings, h.next)

pub returns : goal.returns
unfolding part_call_in
returns c = rw c.part_numbers.ensures (ap (λ (x : PartAnswer × List ℕ). (part_numbers x.0, x.1)) c.read_part_bytes_in-part.ensures)
