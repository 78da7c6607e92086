-- `importer::column` meets its contract.
use native.Mathlib.Omega.{arith}
use Rattle.importer.proofs.Coefficients.{column-none, column-open, column-all, column-place}
use Rattle.importer.proofs.Walking.{step-inside}
use Rattle.importer.proofs.column.Goals as goal

pub returns-in_err-next : goal.returns-in_err-next
returns-in_err-next c = rw c.from_residual.ensures (search (column-none, c.in_err-next.was) depth 10)

pub line_value-requires : goal.line_value-requires
line_value-requires c = (search (step-inside, c.in_ok-next.was) depth 6, omega arith)

pub returns-in_err-v : goal.returns-in_err-v
returns-in_err-v c = rw c.from_residual-in_err-v.ensures (search (column-open, c.in_ok-next.was, c.in_err-v.was) depth 12)

pub column_line-to-requires : goal.column_line-to-requires
column_line-to-requires c = search (column-place, c.in_ok-next.was) depth 12

pub returns : goal.returns
returns c = search (column-all, c.in_ok-next.was, c.in_ok-v.was) depth 16
