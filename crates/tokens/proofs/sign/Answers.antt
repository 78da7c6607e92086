-- `tokens::sign` meets its contract.
use Rattle.std.proofs.lemmas.Result.{err_from_is_err_and}
use Rattle.tokens.proofs.Moved.{sign-wrong, sign-yes, sign-no}
use Rattle.tokens.proofs.sign.Goals as goal

pub returns-in_err-token : goal.returns-in_err-token
returns-in_err-token c = let p = err_from_is_err_and c.from_residual.result c.from_residual.ensures.1 in rw (p.1, p.2) (search (sign-wrong, c.in_err-token.was) depth 6)

pub returns-then-token : goal.returns-then-token
returns-then-token c = search (sign-yes, c.in_ok-token.was) depth 7

pub returns : goal.returns
returns c = search (sign-no, c.in_ok-token.was) depth 7
