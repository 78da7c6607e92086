-- `exporter::bound_lines` meets its contract.
use native.Mathlib.Omega.{arith}
use Rattle.exporter.proofs.Writing.{bound-lines}
use Rattle.exporter.proofs.bound_lines.Goals as goal

pub returns : goal.returns
returns c = (search bound-lines depth 10, omega arith)
