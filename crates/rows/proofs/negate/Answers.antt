-- `rows::negate` meets its contract.
use native.Mathlib.Omega.{arith}
use Rattle.rows.proofs.Counting.{turned-end}
use Rattle.rows.proofs.negate.Goals as goal

pub returns : goal.returns
returns c = turned-end _ _ _ _ c.loop-z.invariant (omega (arith, c.loop-z.invariant.size))
