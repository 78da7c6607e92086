-- `sections::closed` meets its contract.
use Rattle.std.proofs.lemmas.Result.{err_from_is_err_and}
use Rattle.data.proofs.Filling.{closed-done, closed-not, closed-refused}
use Rattle.data.proofs.sections.closed.Goals as goal

pub returns-in_err-close : goal.returns-in_err-close
returns-in_err-close c = let p = err_from_is_err_and c.from_residual.result c.from_residual.ensures.1 in rw (p.1, p.2) (search (closed-refused, c.in_err-close.was) depth 6)

pub returns-in_err-next : goal.returns-in_err-next
returns-in_err-next c = let p = err_from_is_err_and c.from_residual-in_err-next.result c.from_residual-in_err-next.ensures.1 in rw (p.1, p.2) (search (closed-not, c.in_ok-close.was, c.in_err-next.was) depth 8)

pub returns : goal.returns
returns c = search (closed-done, c.in_ok-close.was, c.in_ok-next.was) depth 8
