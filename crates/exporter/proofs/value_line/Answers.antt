-- `exporter::value_line` meets its contract.
use native.Mathlib.Omega.{arith}
use Rattle.exporter.proofs.Writing.{value-then}
use Rattle.exporter.proofs.value_line.Goals as goal

pub returns : goal.returns
returns c = (search value-then depth 9, omega arith)
