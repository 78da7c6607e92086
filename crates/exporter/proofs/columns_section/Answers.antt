-- `exporter::columns_section` meets its contract.
use native.Mathlib.Omega.{arith}
use Rattle.exporter.proofs.Writing.{columns-then}
use Rattle.exporter.proofs.columns_section.Goals as goal

pub returns : goal.returns
returns c = (search columns-then depth 9, omega arith)
