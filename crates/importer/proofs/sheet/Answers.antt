-- `importer::sheet` meets its contract.
use native.Mathlib.Omega.{arith}
use Rattle.importer.proofs.Whole.{sheet-none, sheet-inside, sheet-few, sheet-bad, sheet-place, sheet-long, sheet-never, sheet-all}
use Rattle.importer.proofs.sheet.Goals as goal

pub returns-in_err-passed : goal.returns-in_err-passed
returns-in_err-passed c = rw c.from_residual.ensures (search (sheet-none, c.in_err-passed.was) depth 10)

pub ending-requires : goal.ending-requires
ending-requires c = (search (sheet-inside, c.in_ok-passed.was) depth 14, omega arith, search (sheet-few, c.in_ok-passed.was) depth 14)

pub returns-in_err-end : goal.returns-in_err-end
returns-in_err-end c = rw c.from_residual-in_err-end.ensures (search (sheet-bad, c.in_ok-passed.was, c.in_err-end.was) depth 16)

pub returns-then-end-text : goal.returns-then-end-text
returns-then-end-text c = search (sheet-long, c.in_ok-passed.was, c.in_ok-end.was) depth 18

pub matrix-requires-2 : goal.matrix-requires-2
matrix-requires-2 c = (omega arith, omega arith, search (sheet-place, c.in_ok-passed.was, c.in_ok-end.was) depth 20)

pub returns-in_err-written : goal.returns-in_err-written
returns-in_err-written c = rw c.from_residual-in_err-written.ensures (search (sheet-never, c.in_ok-passed.was, c.in_ok-end.was, c.in_err-written.was) depth 22)

pub returns : goal.returns
returns c = search (sheet-all, c.in_ok-passed.was, c.in_ok-end.was, c.in_ok-written.was) depth 24
