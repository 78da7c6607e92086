-- `importer::opening` meets its contract.
use native.Mathlib.Omega.{arith}
use Rattle.importer.proofs.Rows.{open_none, open-other, open-all}
use Rattle.importer.proofs.Stripping.{move-inside}
use Rattle.importer.proofs.opening.Goals as goal

pub returns-in_err-at : goal.returns-in_err-at
returns-in_err-at c = rw c.from_residual.ensures (search (open_none, c.in_err-at.was) depth 10)

pub less_rows-less-requires : goal.less_rows-less-requires
less_rows-less-requires c = (search (move-inside, c.in_ok-at.was) depth 6, omega arith)

pub returns-in_err-next : goal.returns-in_err-next
returns-in_err-next c = rw c.from_residual-in_err-next.ensures (search (open-other, c.in_ok-at.was, c.in_err-next.was) depth 13)

pub returns : goal.returns
returns c = search (open-all, c.in_ok-at.was, c.in_ok-next.was) depth 13
