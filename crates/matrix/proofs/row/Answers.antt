-- `matrix::row` meets its contract.
use Rattle.std.proofs.lemmas.Result.{err_from_is_err_and}
use Rattle.matrix.proofs.Adding.{slot-low, row-refused, row-full, row_written}
use native.Mathlib.Omega.{arith}
use Rattle.matrix.proofs.row.Goals as goal

pub overflow_mul-a : goal.overflow_mul-a
overflow_mul-a c = omega (arith, slot-low _ _ _ _ c.next_slot-slot.ensures)

pub overflow_add-b : goal.overflow_add-b
overflow_add-b c = omega (arith, slot-low _ _ _ _ c.next_slot-slot.ensures)

pub offset_bounds-counts-a : goal.offset_bounds-counts-a
offset_bounds-counts-a c = omega (arith, slot-low _ _ _ _ c.next_slot-slot.ensures)

pub slice_bounds-row_at-end : goal.slice_bounds-row_at-end
slice_bounds-row_at-end c = omega (arith, slot-low _ _ _ _ c.next_slot-slot.ensures)

pub returns-in_err-v : goal.returns-in_err-v
returns-in_err-v c = let p = err_from_is_err_and c.from_residual.result c.from_residual.ensures.1 in rw (p.1, p.2) (search (row-refused, c.in_err-v.was) depth 12)

pub returns-then-not-has_room : goal.returns-then-not-has_room
returns-then-not-has_room c = search (row-full, c.in_ok-v.was) depth 15

pub returns : goal.returns
returns c = search (row_written, c.in_ok-v.was) depth 17
