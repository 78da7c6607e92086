-- `importer::again` meets its contract.
use Rattle.importer.proofs.Stripping.{move-inside}
use Rattle.importer.proofs.Coefficients.{again-none, again-head, again-other, again-all}
use Rattle.importer.proofs.again.Goals as goal

pub returns-then-not-has_floor : goal.returns-then-not-has_floor
returns-then-not-has_floor c = search again-none depth 8

pub returns-in_err-next : goal.returns-in_err-next
returns-in_err-next c = rw c.from_residual.ensures (search (again-head, c.in_err-next.was) depth 12)

pub strip_print-requires : goal.strip_print-requires
strip_print-requires c = search (move-inside, c.in_ok-next.was) depth 6

pub returns-in_err-next-2 : goal.returns-in_err-next-2
returns-in_err-next-2 c = rw c.from_residual-in_err-next-2.ensures (search (again-other, c.in_ok-next.was, c.in_err-next-2.was) depth 14)

pub strip-requires : goal.strip-requires
strip-requires c = search (move-inside, c.in_ok-next-2.was) depth 6

pub returns : goal.returns
returns c = search (again-all, c.in_ok-next.was, c.in_ok-next-2.was) depth 16
