-- `objective_at` meets its contract.
use Rattle.std.proofs.lemmas.Result.{err_from_is_err_and}
use Rattle.matrix.proofs.sides.RowLaws.{objective-refused, objective-row}
use Rattle.matrix.proofs.sides.objective_at.Goals as goal

pub returns-in_err-gather : goal.returns-in_err-gather
returns-in_err-gather c = let p = err_from_is_err_and c.from_residual.result c.from_residual.ensures.1 in rw (p.1, p.2) (search (objective-refused, c.in_err-gather.was) depth 6)

pub returns : goal.returns
returns c = search (objective-row, c.in_ok-gather.was) depth 6
