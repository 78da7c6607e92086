-- `entering::take` meets its contract.
use Rattle.std.proofs.lemmas.Result.{err_from_is_err_and}
use Rattle.data.proofs.Accepting.{take-wrong, take-refused, take_done}
use Rattle.data.proofs.entering.take.Goals as goal

pub returns-in_err-number : goal.returns-in_err-number
returns-in_err-number c = let p = err_from_is_err_and c.from_residual.result c.from_residual.ensures.1 in rw (p.1, p.2) (search (take-wrong, c.in_err-number.was) depth 6)

pub returns-in_err-count : goal.returns-in_err-count
returns-in_err-count c = let p = err_from_is_err_and c.from_residual-in_err-count.result c.from_residual-in_err-count.ensures.1 in rw (p.1, p.2) (search (take-refused, c.in_ok-number.was, c.in_err-count.was) depth 8)

pub returns : goal.returns
returns c = search (take_done, c.in_ok-number.was, c.in_ok-count.was) depth 8
