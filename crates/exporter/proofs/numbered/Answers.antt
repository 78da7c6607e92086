-- `exporter::numbered` meets its contract.
use native.Mathlib.Omega.{arith}
use Rattle.value.proofs.Writing.{written_then}
use Rattle.exporter.proofs.numbered.Goals as goal

pub returns : goal.returns
returns c = (search written_then depth 10, omega arith)
