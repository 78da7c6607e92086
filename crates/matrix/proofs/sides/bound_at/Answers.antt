-- `bound_at` meets its contract.
use Rattle.std.proofs.lemmas.Result.{err_from_is_err_and}
use Rattle.matrix.proofs.sides.Bounds.{bound-value, bound-side, bound-number}
use Rattle.matrix.proofs.sides.bound_at.Goals as goal

pub returns-in_err-variable : goal.returns-in_err-variable
returns-in_err-variable c = let p = err_from_is_err_and c.from_residual.result c.from_residual.ensures.1 in rw (p.1, p.2) (search (bound-number, c.in_err-variable.was) depth 6)

pub returns-in_err-v : goal.returns-in_err-v
returns-in_err-v c =
    let p = err_from_is_err_and c.from_residual-in_err-v.result c.from_residual-in_err-v.ensures.1 in
    rw (p.1, p.2) (search (bound-side, c.in_ok-variable.was, c.in_err-v.was) depth 9)

pub returns : goal.returns
returns c = search (bound-value, c.in_ok-variable.was, c.in_ok-v.was) depth 9
