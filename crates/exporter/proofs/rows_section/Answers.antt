-- `exporter::rows_section` meets its contract.
use native.Mathlib.Omega.{arith}
use Rattle.exporter.proofs.Writing.{rows_then}
use Rattle.exporter.proofs.rows_section.Goals as goal

pub returns : goal.returns
returns c = (search rows_then depth 9, omega arith)
