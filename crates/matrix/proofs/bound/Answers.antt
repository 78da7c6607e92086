-- `matrix::bound` meets its contract.
use Rattle.std.proofs.lemmas.Result.{err_from_is_err_and}
use Rattle.matrix.proofs.Adding.{bound-refused, bound-stated}
use Rattle.matrix.proofs.bound.Goals as goal

pub returns-in_err-stated : goal.returns-in_err-stated
returns-in_err-stated c = let p = err_from_is_err_and c.from_residual.result c.from_residual.ensures.1 in rw (p.1, p.2) (search (bound-refused, c.in_err-stated.was) depth 7)

pub returns : goal.returns
returns c = search (bound-stated, c.in_ok-stated.was) depth 11
