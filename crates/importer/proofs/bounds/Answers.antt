-- `importer::bounds` meets its contract.
use native.Mathlib.Omega.{arith}
use Rattle.importer.proofs.Sides.{bounds-more, bounds-stop}
use Rattle.importer.proofs.Walking.{each_first, each-end}
use Rattle.importer.proofs.bounds.Goals as goal

pub loop-j-init : goal.loop-j-init
loop-j-init c = each_first _ _ _ _ _ _ _ (omega arith)

pub returns-in_err-limits : goal.returns-in_err-limits
returns-in_err-limits c = rw c.from_residual.ensures (search (bounds-stop, c.in_err-limits.was) depth 9)

pub loop-j-preserved : goal.loop-j-preserved
loop-j-preserved c = search (bounds-more, c.in_ok-limits.was) depth 14

pub returns : goal.returns
returns c = search each-end depth 8
