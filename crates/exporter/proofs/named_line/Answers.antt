-- `exporter::named_line` meets its contract.
use native.Mathlib.Omega.{arith}
use Rattle.exporter.proofs.Writing.{named-then}
use Rattle.exporter.proofs.named_line.Goals as goal

pub returns : goal.returns
returns c = (search named-then depth 8, omega arith)
