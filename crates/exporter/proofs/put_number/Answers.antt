-- `exporter::put_number` meets its contract.
use native.Mathlib.Omega.{arith}
use Rattle.exporter.proofs.Writing.{number-written}
use Rattle.exporter.proofs.put_number.Goals as goal

pub returns : goal.returns
returns c = (search number-written depth 8, omega arith)
