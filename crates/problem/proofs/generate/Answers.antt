-- `problem::generate` meets its contract.
use Rattle.std.proofs.lemmas.Result.{err_from_is_err_and}
use Rattle.problem.proofs.Problems.{missing-refused, variables-refused, shaped}
use Rattle.problem.proofs.generate.Goals as goal

pub returns-in_err-all_given : goal.returns-in_err-all_given
returns-in_err-all_given c = let p = err_from_is_err_and c.from_residual.result c.from_residual.ensures.1 in rw (p.1, p.2) (search (missing-refused, c.in_err-all_given.was) depth 6)

pub returns-in_err-discrete : goal.returns-in_err-discrete
returns-in_err-discrete c =
    let p = err_from_is_err_and c.from_residual-in_err-discrete.result c.from_residual-in_err-discrete.ensures.1 in
    rw (p.1, p.2) (search (variables-refused, c.in_ok-all_given.was, c.in_err-discrete.was) depth 8)

pub returns : goal.returns
returns c = search (shaped, c.in_ok-all_given.was, c.in_ok-discrete.was) depth 8
