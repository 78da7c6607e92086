-- `gather` meets its contract.
use Rattle.std.proofs.lemmas.Result.{err_from_is_err_and}
use Rattle.matrix.proofs.sides.RowLaws.{gather-done, gather-refused}
use Rattle.matrix.proofs.sides.gather.Goals as goal

pub returns-in_err-gathered : goal.returns-in_err-gathered
returns-in_err-gathered c = let p = err_from_is_err_and c.from_residual.result c.from_residual.ensures.1 in rw (p.1, p.2) (search (gather-refused, c.in_err-gathered.was) depth 9)

pub returns : goal.returns
returns c = search (gather-done, c.in_ok-gathered.was) depth 9
