-- `ends::end` meets its contract.
use Rattle.std.proofs.lemmas.Result.{err_from_is_err_and}
use Rattle.data.proofs.reading.Steps.{end-wrong, end-yes, end-no}
use Rattle.data.proofs.reading.ends.end.Goals as goal

pub returns-in_err-token : goal.returns-in_err-token
returns-in_err-token c = let p = err_from_is_err_and c.from_residual.result c.from_residual.ensures.1 in rw (p.1, p.2) (search (end-wrong, c.in_err-token.was) depth 6)

pub returns-then-token : goal.returns-then-token
returns-then-token c = search (end-no, c.in_ok-token.was) depth 7

pub returns : goal.returns
returns c = search (end-yes, c.in_ok-token.was) depth 7
