-- `exporter::column` meets its contract.
use native.Mathlib.Omega.{arith}
use Rattle.exporter.proofs.Writing.{column-then}
use Rattle.exporter.proofs.column.Goals as goal

pub returns : goal.returns
returns c = (search column-then depth 9, omega arith)
