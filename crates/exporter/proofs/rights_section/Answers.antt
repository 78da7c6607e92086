-- `exporter::rights_section` meets its contract.
use native.Mathlib.Omega.{arith}
use Rattle.exporter.proofs.Writing.{rights-then}
use Rattle.exporter.proofs.rights_section.Goals as goal

pub returns : goal.returns
returns c = (search rights-then depth 9, omega arith)
