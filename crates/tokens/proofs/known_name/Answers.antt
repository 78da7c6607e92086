-- `tokens::known_name` meets its contract.
use Rattle.std.proofs.lemmas.Result.{err_from_is_err_and}
use Rattle.tokens.proofs.Moved.{at-wrong, at-no-name, at-unknown, at_name}
use Rattle.tokens.proofs.known_name.Goals as goal

pub returns-in_err-token : goal.returns-in_err-token
returns-in_err-token c = let p = err_from_is_err_and c.from_residual.result c.from_residual.ensures.1 in rw (p.1, p.2) (search (at-wrong, c.in_err-token.was) depth 6)

pub returns-then-token : goal.returns-then-token
returns-then-token c = search (at-no-name, c.in_ok-token.was) depth 7

pub returns-in_default : goal.returns-in_default
returns-in_default c = search (at-unknown, c.in_ok-token.was) depth 8

pub returns : goal.returns
returns c = search (at_name, c.in_ok-token.was) depth 8
