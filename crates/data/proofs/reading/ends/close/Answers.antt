-- `ends::close` meets its contract.
use Rattle.std.proofs.lemmas.Result.{err_from_is_err_and}
use Rattle.data.proofs.reading.Steps.{close-wrong, close-sign, close-yes, close-no}
use Rattle.data.proofs.reading.ends.close.Goals as goal

pub returns-in_err-token : goal.returns-in_err-token
returns-in_err-token c = let p = err_from_is_err_and c.from_residual.result c.from_residual.ensures.1 in rw (p.1, p.2) (search (close-wrong, c.in_err-token.was) depth 6)

pub returns-then-token : goal.returns-then-token
returns-then-token c = search (close-sign, c.in_ok-token.was) depth 8

pub returns-then-token-2 : goal.returns-then-token-2
returns-then-token-2 c = search (close-no, c.in_ok-token.was) depth 8

pub returns : goal.returns
returns c = search (close-yes, c.in_ok-token.was) depth 8
