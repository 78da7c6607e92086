-- `exporter::floor_line` meets its contract.
use native.Mathlib.Omega.{arith}
use Rattle.exporter.proofs.Writing.{no-floor-line, floor-line}
use Rattle.exporter.proofs.floor_line.Goals as goal

pub returns-in-None : goal.returns-in-None
returns-in-None c = (search no-floor-line depth 8, omega arith)

pub returns-in-Some : goal.returns-in-Some
returns-in-Some c = (search floor-line depth 8, omega arith)
