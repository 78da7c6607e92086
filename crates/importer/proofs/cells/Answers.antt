-- `importer::cells` meets its contract.
use native.Mathlib.Omega.{arith}
use Rattle.importer.proofs.Coefficients.{cells-more, cells-stop}
use Rattle.importer.proofs.Walking.{each_first, each-end}
use Rattle.importer.proofs.cells.Goals as goal

pub loop-i-init : goal.loop-i-init
loop-i-init c = each_first _ _ _ _ _ _ _ (omega arith)

pub returns-in_err-v : goal.returns-in_err-v
returns-in_err-v c = rw c.from_residual.ensures (search (cells-stop, c.in_err-v.was) depth 10)

pub loop-i-preserved : goal.loop-i-preserved
loop-i-preserved c = search (cells-more, c.in_ok-v.was) depth 14

pub returns : goal.returns
returns c = search each-end depth 8
