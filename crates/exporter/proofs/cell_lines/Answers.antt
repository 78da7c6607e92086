-- `exporter::cell_lines` meets its contract.
use native.Mathlib.Omega.{arith}
use Rattle.exporter.proofs.Writing.{twice-none, twice-at}
use Rattle.exporter.proofs.cell_lines.Goals as goal

pub returns-in-None : goal.returns-in-None
returns-in-None c = (search twice-none depth 9, omega arith)

pub returns-in-Some : goal.returns-in-Some
returns-in-Some c = (search twice-at depth 9, omega arith)
