-- `number` meets its contract.
use Rattle.std.proofs.lemmas.Result.{err_from_is_err_and}
use Rattle.problem.proofs.variables.Both.{number-refused, number-later, number_of}
use Rattle.problem.proofs.variables.number.Goals as goal

pub returns-in_err-discrete : goal.returns-in_err-discrete
returns-in_err-discrete c = let p = err_from_is_err_and c.from_residual.result c.from_residual.ensures.1 in rw (p.1, p.2) (search (number-refused, c.in_err-discrete.was) depth 5)

pub returns-in_err-total : goal.returns-in_err-total
returns-in_err-total c =
    let p = err_from_is_err_and c.from_residual-in_err-total.result c.from_residual-in_err-total.ensures.1 in
    rw (p.1, p.2) (search (number-later, c.in_ok-discrete.was, c.in_err-total.was) depth 7)

pub returns : goal.returns
returns c = search (number_of, c.in_ok-discrete.was, c.in_ok-total.was) depth 7
