-- The answer's numbers are small, and so stored as they are.
use Prim.Native.Nat.{ℕ}
use mathlib.Core.List.{List}
use mathlib.Core.Path.{sym, ap, subst}
use Rattle.sheet.specs.declared.Answer.{Answer}
use Rattle.sheet.proofs.Bounds.{Small, sheet_bytes_small}
use Rattle.c_calls.specs.Calls.{sheet_numbers, sheet_call_by}
use Rattle.c_calls.proofs.lorukinde_read_house_sheet.Goals as goal

pub answer_numbers-requires : goal.answer_numbers-requires
unfolding sheet_call_by
answer_numbers-requires c = let h = (let told : Small c.read_house_sheet_bytes-a.result = subst (λ (r : Answer × List ℕ). Small r.0) (sym c.read_house_sheet_bytes-a.ensures) (sheet_bytes_small _ _ _) in told) in (h.place, h.records, h.warnings)

pub returns : goal.returns
unfolding sheet_call_by
returns c = rw c.answer_numbers.ensures (ap (λ (x : Answer × List ℕ). (sheet_numbers x.0, x.1)) c.read_house_sheet_bytes-a.ensures)
