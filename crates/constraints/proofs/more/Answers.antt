-- `constraints::more` meets its contract.
use Rattle.std.proofs.lemmas.Result.{err_from_is_err_and}
use Rattle.constraints.proofs.TokenLaws.{more-token, more-wrong}
use Rattle.constraints.proofs.more.Goals as goal

pub returns-in_err-token : goal.returns-in_err-token
returns-in_err-token c = let p = err_from_is_err_and c.from_residual.result c.from_residual.ensures.1 in rw (p.1, p.2) (search (more-wrong, c.in_err-token.was) depth 6)

pub returns : goal.returns
returns c = search (more-token, c.in_ok-token.was) depth 7
