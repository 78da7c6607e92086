-- `exporter::row_line` meets its contract.
use native.Mathlib.Omega.{arith}
use Rattle.exporter.proofs.Writing.{less-line, equal-line}
use Rattle.exporter.proofs.row_line.Goals as goal

pub returns-then-i-t : goal.returns-then-i-t
returns-then-i-t c = (search less-line depth 10, omega arith)

pub returns : goal.returns
returns c = (search equal-line depth 9, omega arith)
