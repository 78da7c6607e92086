-- `importer::columns` meets its contract.
use native.Mathlib.Omega.{arith}
use Rattle.importer.proofs.Variables.{several-first, several-end, several-stop, several-none, several-more}
use Rattle.importer.proofs.columns.Goals as goal

pub loop-k-init : goal.loop-k-init
loop-k-init c = several-first _ _ _ _ _ _ _ _ (omega arith)

pub returns-in_default : goal.returns-in_default
returns-in_default c = search several-stop depth 10

pub returns-in_err-n : goal.returns-in_err-n
returns-in_err-n c = rw c.from_residual.ensures (search (several-none, c.in_err-n.was) depth 13)

pub loop-k-preserved : goal.loop-k-preserved
loop-k-preserved c = search (several-more, c.in_ok-n.was) depth 14

pub returns : goal.returns
returns c = search several-end depth 8
