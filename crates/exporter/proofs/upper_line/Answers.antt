-- `exporter::upper_line` meets its contract.
use native.Mathlib.Omega.{arith}
use Rattle.exporter.proofs.Writing.{upper-none, upper-at}
use Rattle.exporter.proofs.upper_line.Goals as goal

pub returns-in-None : goal.returns-in-None
returns-in-None c = (search upper-none depth 8, omega arith)

pub returns-in-Some : goal.returns-in-Some
returns-in-Some c = (search upper-at depth 9, omega arith)
