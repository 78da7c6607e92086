-- `exporter::right_line` meets its contract.
use native.Mathlib.Omega.{arith}
use Rattle.exporter.proofs.Writing.{right-line}
use Rattle.exporter.proofs.right_line.Goals as goal

pub returns : goal.returns
returns c = (search right-line depth 10, omega arith)
