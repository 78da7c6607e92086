-- `importer::cell_head` meets its contract.
use native.Mathlib.Omega.{arith}
use Rattle.importer.proofs.Stripping.{move-inside, head-none, head-number, head-all}
use Rattle.importer.proofs.cell_head.Goals as goal

pub returns-in_err-next : goal.returns-in_err-next
returns-in_err-next c = rw c.from_residual.ensures (search (head-none, c.in_err-next.was) depth 10)

pub strip_number-requires : goal.strip_number-requires
strip_number-requires c = (search (move-inside, c.in_ok-next.was) depth 6, omega arith)

pub returns-in_err-next-2 : goal.returns-in_err-next-2
returns-in_err-next-2 c = rw c.from_residual-in_err-next-2.ensures (search (head-number, c.in_ok-next.was, c.in_err-next-2.was) depth 12)

pub strip-requires : goal.strip-requires
strip-requires c = search (move-inside, c.in_ok-next-2.was) depth 6

pub returns : goal.returns
returns c = search (head-all, c.in_ok-next.was, c.in_ok-next-2.was) depth 12
