-- `run_of` meets its contract.
use Rattle.std.proofs.lemmas.Result.{err_from_is_err_and}
use Rattle.gatherer.proofs.Variables.{run-head, run-limits, run-refused, run-back, run-count}
use Rattle.gatherer.proofs.run_of.Goals as goal

pub returns-in_err-index : goal.returns-in_err-index
returns-in_err-index c = let p = err_from_is_err_and c.from_residual.result c.from_residual.ensures.1 in rw (p.1, p.2) (search (run-head, c.in_err-index.was) depth 6)

pub returns-in_err-limits : goal.returns-in_err-limits
returns-in_err-limits c =
    let p = err_from_is_err_and c.from_residual-in_err-limits.result c.from_residual-in_err-limits.ensures.1 in
    rw (p.1, p.2) (search (run-limits, c.in_ok-index.was, c.in_err-limits.was) depth 8)

pub returns-in_err-count : goal.returns-in_err-count
returns-in_err-count c =
    let p = err_from_is_err_and c.from_residual-in_err-count.result c.from_residual-in_err-count.ensures.1 in
    rw (p.1, p.2) (search (run-refused, c.in_ok-index.was, c.in_ok-limits.was, c.in_err-count.was) depth 9)

pub returns-then-body-at : goal.returns-then-body-at
returns-then-body-at c = search (run-back, c.in_ok-index.was, c.in_ok-limits.was) depth 9

pub returns : goal.returns
returns c = search (run-count, c.in_ok-index.was, c.in_ok-limits.was, c.in_ok-count.was) depth 10
