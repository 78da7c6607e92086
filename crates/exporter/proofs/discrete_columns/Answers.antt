-- `exporter::discrete_columns` meets its contract.
use native.Mathlib.Omega.{arith}
use Rattle.exporter.proofs.Writing.{discrete-none, discrete-then}
use Rattle.exporter.proofs.discrete_columns.Goals as goal

pub returns-then-k-eq0 : goal.returns-then-k-eq0
returns-then-k-eq0 c = (search discrete-none depth 6, omega arith)

pub returns : goal.returns
returns c = (search discrete-then depth 10, omega arith)
