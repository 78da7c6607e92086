-- `rows::floor_slot` meets its contract.
use native.Mathlib.Omega.{arith}
use Rattle.rows.proofs.Slotting.{floor-row, floor-past}
use Rattle.rows.proofs.floor_slot.Goals as goal

pub returns-then-k : goal.returns-then-k
returns-then-k c = omega (arith, floor-row _ c.if-k.true)

pub returns : goal.returns
returns c = search floor-past
