-- `importer::cell_at` meets its contract.
use native.Mathlib.Omega.{arith}
use Rattle.importer.proofs.Coefficients.{cell-blank, cell-unread, cell-zero, cell_other, cell-found}
use Rattle.importer.proofs.Stripping.{move-inside}
use Rattle.importer.proofs.Values.{found_inside, found-valid}
use Rattle.importer.proofs.cell_at.Goals as goal

pub returns-in_default : goal.returns-in_default
returns-in_default c = search cell-blank depth 10

pub read_value-requires : goal.read_value-requires
read_value-requires c = search move-inside depth 6

pub returns-in_err-v : goal.returns-in_err-v
returns-in_err-v c = rw c.from_residual.ensures (search (cell-unread, c.in_err-v.was) depth 10)

pub returns-then-is_zero : goal.returns-then-is_zero
returns-then-is_zero c = search (cell-zero, c.in_ok-v.was) depth 12

pub again-requires : goal.again-requires
again-requires c = (search (found_inside, c.in_ok-v.was) depth 6, omega arith, omega arith, search (found-valid, c.in_ok-v.was) depth 6)

pub returns-in_err-next : goal.returns-in_err-next
returns-in_err-next c = rw c.from_residual-in_err-next.ensures (search (cell_other, c.in_ok-v.was, c.in_err-next.was) depth 16)

pub returns : goal.returns
returns c = search (cell-found, c.in_ok-v.was, c.in_ok-next.was) depth 16
