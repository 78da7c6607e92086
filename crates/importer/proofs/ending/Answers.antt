-- `importer::ending` meets its contract.
use native.Mathlib.Omega.{arith}
use Rattle.importer.proofs.Walking.{step-inside}
use Rattle.importer.proofs.Whole.{ending-none, ending-place, ending-some}
use Rattle.importer.proofs.ending.Goals as goal

pub returns-in_err-next : goal.returns-in_err-next
returns-in_err-next c = rw c.from_residual.ensures (search (ending-none, c.in_err-next.was) depth 10)

pub bounds_part-requires : goal.bounds_part-requires
bounds_part-requires c = (search (step-inside, c.in_ok-next.was) depth 7, omega arith, search (ending-place, c.in_ok-next.was) depth 14)

pub returns : goal.returns
returns c = search (ending-some, c.in_ok-next.was) depth 14
