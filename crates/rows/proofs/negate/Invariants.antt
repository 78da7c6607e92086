-- `rows::negate` meets its contract.
use Rattle.rows.specs.Counts.{opposed}
use Rattle.rows.proofs.Counting.{Turned}
use Rattle.rows.proofs.negate.Given as goal

abbrev pub invariant-loop-z : goal.invariant-loop-z
invariant-loop-z l = Turned opposed l.initial.counts l.z-index l.counts
