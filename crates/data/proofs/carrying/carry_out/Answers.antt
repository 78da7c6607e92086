-- `carrying::carry_out` meets its contract.
use Rattle.std.proofs.lemmas.Result.{err_from_is_err_and}
use Rattle.data.proofs.Portions.{carry-runs, carry-refused}
use Rattle.data.proofs.carrying.carry_out.Goals as goal

pub returns-in_err-head : goal.returns-in_err-head
returns-in_err-head c = let p = err_from_is_err_and c.from_residual.result c.from_residual.ensures.1 in rw (p.1, p.2) (search (carry-refused, c.in_err-head.was) depth 6)

pub returns : goal.returns
returns c = search (carry-runs, c.in_ok-head.was) depth 8
