-- `exporter::cell_line` meets its contract.
use native.Mathlib.Omega.{arith}
use Rattle.exporter.proofs.Writing.{cell-then}
use Rattle.exporter.proofs.cell_line.Goals as goal

pub returns : goal.returns
returns c = (search cell-then depth 9, omega arith)
