-- `exporter::floor_row` meets its contract.
use native.Mathlib.Omega.{arith}
use Rattle.exporter.proofs.Writing.{no-floor-row, floor-row}
use Rattle.exporter.proofs.floor_row.Goals as goal

pub returns-in-None : goal.returns-in-None
returns-in-None c = (search no-floor-row depth 8, omega arith)

pub returns-in-Some : goal.returns-in-Some
returns-in-Some c = (search floor-row depth 8, omega arith)
