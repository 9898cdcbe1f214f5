-- The answer's numbers are small, and so stored as they are.
use Prim.Native.Nat.{ℕ}
use mathlib.Core.List.{List}
use mathlib.Core.Path.{sym, ap, subst}
use Rattle.sheet.specs.declared.PartAnswer.{PartAnswer}
use Rattle.sheet.proofs.Bounds.{SmallPart, part_bytes_small}
use Rattle.c_calls.specs.Calls.{part_numbers, part_call_by}
use Rattle.c_calls.proofs.lorukinde_read_part.Goals as goal

pub part_numbers-requires : goal.part_numbers-requires
unfolding part_call_by
part_numbers-requires c = let h = (let told : SmallPart c.read_part_bytes-part.result = subst (λ (r : PartAnswer × List ℕ). SmallPart r.0) (sym c.read_part_bytes-part.ensures) (part_bytes_small _ _ _ _) in told) in (h.same.place, h.same.records, h.same.warnings, h.next)

pub returns : goal.returns
unfolding part_call_by
returns c = rw c.part_numbers.ensures (ap (λ (x : PartAnswer × List ℕ). (part_numbers x.0, x.1)) c.read_part_bytes-part.ensures)
