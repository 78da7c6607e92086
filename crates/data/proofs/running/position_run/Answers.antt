-- `running::position_run` meets its contract.
use Rattle.std.proofs.lemmas.Result.{err_from_is_err_and}
use Rattle.data.proofs.PositionRuns.{run-wrong, run-counted, position_past, position-wrong, position_runs}
use Rattle.data.proofs.running.position_run.Goals as goal

pub returns-then-length-j : goal.returns-then-length-j
returns-then-length-j c = search position_past depth 6

pub returns-in_err-bounds : goal.returns-in_err-bounds
returns-in_err-bounds c = let p = err_from_is_err_and c.from_residual.result c.from_residual.ensures.1 in rw (p.1, p.2) (search (position-wrong, c.in_err-bounds.was) depth 11)

pub returns-in_err-n : goal.returns-in_err-n
returns-in_err-n c = let p = err_from_is_err_and c.from_residual-in_err-n.result c.from_residual-in_err-n.ensures.1 in rw (p.1, p.2) (search (position_runs, run-wrong, c.in_ok-bounds.was, c.in_err-n.was) depth 14)

pub returns : goal.returns
returns c = search (position_runs, run-counted, c.in_ok-bounds.was, c.in_ok-n.was) depth 14
