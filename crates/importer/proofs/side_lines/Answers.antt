-- `importer::side_lines` meets its contract.
use native.Mathlib.Omega.{arith}
use Rattle.importer.proofs.Lines.{side-lines}
use Rattle.importer.proofs.side_lines.Goals as goal

pub returns : goal.returns
returns c = (search side-lines depth 10, omega arith)
