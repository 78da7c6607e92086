-- `parser::read_body` meets its contract.
use Rattle.std.proofs.lemmas.Result.{err_from_is_err_and}
use Rattle.parser.proofs.Laws.{body-objective, body-refused, body-rows}
use Rattle.parser.proofs.read_body.Goals as goal

pub returns-in_err-aim : goal.returns-in_err-aim
returns-in_err-aim c = let p = err_from_is_err_and c.from_residual.result c.from_residual.ensures.1 in rw (p.1, p.2) (search (body-objective, c.in_err-aim.ensures) depth 6)

pub returns-in_err-constraints : goal.returns-in_err-constraints
returns-in_err-constraints c = let p = err_from_is_err_and c.from_residual-in_err-constraints.result c.from_residual-in_err-constraints.ensures.1 in rw (p.1, p.2) (search (body-refused, c.in_ok-aim.ensures, c.in_err-constraints.ensures) depth 8)

pub returns : goal.returns
returns c = search (body-rows, c.in_ok-aim.ensures, c.in_ok-constraints.ensures) depth 9
