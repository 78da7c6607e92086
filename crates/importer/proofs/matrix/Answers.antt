-- `importer::matrix` meets its contract.
use native.Mathlib.Omega.{arith}
use Rattle.importer.proofs.Variables.{columns-inside, columns-few, matrix-none, matrix-bad, matrix-all, matrix-few, matrix-place, matrix-sum}
use Rattle.importer.proofs.matrix.Goals as goal

pub returns-in_err-whole : goal.returns-in_err-whole
returns-in_err-whole c = rw c.from_residual.ensures (search (matrix-none, c.in_err-whole.was) depth 9)

pub overflow_sub-limit : goal.overflow_sub-limit
overflow_sub-limit c = search (columns-few, c.in_ok-whole.was) depth 7

pub columns-requires : goal.columns-requires
columns-requires c = (search (columns-inside, c.in_ok-whole.was) depth 7, omega arith, search (matrix-few, c.in_ok-whole.was) depth 12, search (matrix-place, c.in_ok-whole.was) depth 12)

pub returns-in_err-other : goal.returns-in_err-other
returns-in_err-other c = rw c.from_residual-in_err-other.ensures (search (matrix-bad, c.in_ok-whole.was, c.in_err-other.was) depth 12)

pub overflow_add-result : goal.overflow_add-result
overflow_add-result c = search (matrix-sum, c.in_ok-whole.was, c.in_ok-other.was) depth 18

pub returns : goal.returns
returns c = search (matrix-all, c.in_ok-whole.was, c.in_ok-other.was) depth 12
