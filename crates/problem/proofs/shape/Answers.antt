-- `problem::shape` meets its contract.
use Rattle.std.proofs.lemmas.Result.{err_from_is_err_and}
use Rattle.problem.proofs.Problems.{objective-refused, constraints-refused, constraints-done}
use Rattle.problem.proofs.shape.Goals as goal

pub returns-in_err-objective : goal.returns-in_err-objective
returns-in_err-objective c = let p = err_from_is_err_and c.from_residual.result c.from_residual.ensures.1 in rw (p.1, p.2) (search (objective-refused, c.in_err-objective.was) depth 6)

pub returns-in_err-filled : goal.returns-in_err-filled
returns-in_err-filled c =
    let p = err_from_is_err_and c.from_residual-in_err-filled.result c.from_residual-in_err-filled.ensures.1 in
    rw (p.1, p.2) (search (constraints-refused, c.in_ok-objective.was, c.in_err-filled.was) depth 8)

pub returns : goal.returns
returns c = search (constraints-done, c.in_ok-objective.was, c.in_ok-filled.was) depth 8
