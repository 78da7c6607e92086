-- `importer::cell_line` meets its contract.
use native.Mathlib.Omega.{arith}
use Rattle.importer.proofs.Lines.{zero-line, some-line}
use Rattle.importer.proofs.cell_line.Goals as goal

pub returns-then-is_zero : goal.returns-then-is_zero
returns-then-is_zero c = (search zero-line depth 8, omega arith)

pub returns : goal.returns
returns c = (search some-line depth 8, omega arith)
