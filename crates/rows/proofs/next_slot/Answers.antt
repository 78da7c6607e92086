-- `rows::next_slot` meets its contract.
use borrow.Author.Tests.{not-true, not-false}
use Rattle.rows.proofs.Slotting.{has-slot, slot-spare, slot-equal, slot-less}
use native.Mathlib.Omega.{arith}
use Rattle.rows.proofs.next_slot.Goals as goal

pub returns-then-not-has_room : goal.returns-then-not-has_room
returns-then-not-has_room c = slot-spare _ _ _ c.has_room.ensures _ (not-true _ c.if-not-has_room.true-raw)

pub overflow_sub-result-then-equal : goal.overflow_sub-result-then-equal
overflow_sub-result-then-equal c = omega (arith, has-slot _ _ _ c.has_room.ensures (not-false _ c.if-not-has_room.false-raw))

pub returns-then-equal : goal.returns-then-equal
returns-then-equal c = slot-equal _ _ _ c.has_room.ensures _ (not-false _ c.if-not-has_room.false-raw) c.if-equal.true

pub returns : goal.returns
returns c = slot-less _ _ _ c.has_room.ensures _ (not-false _ c.if-not-has_room.false-raw) c.if-equal.false
