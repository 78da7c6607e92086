-- `constraints::relation` meets its contract.
use Rattle.std.proofs.lemmas.Result.{err_from_is_err_and}
use Rattle.constraints.proofs.TokenLaws.{relation-yes, relation-no, relation-wrong}
use Rattle.constraints.proofs.relation.Goals as goal

pub returns-in_err-token : goal.returns-in_err-token
returns-in_err-token c = let p = err_from_is_err_and c.from_residual.result c.from_residual.ensures.1 in rw (p.1, p.2) (search (relation-wrong, c.in_err-token.was) depth 6)

pub returns-then-token : goal.returns-then-token
returns-then-token c = search (relation-yes, c.in_ok-token.was) depth 8

pub returns-then-token-2 : goal.returns-then-token-2
returns-then-token-2 c = search (relation-yes, c.in_ok-token.was) depth 8

pub returns-then-token-3 : goal.returns-then-token-3
returns-then-token-3 c = search (relation-yes, c.in_ok-token.was) depth 8

pub returns : goal.returns
returns c = search (relation-no, c.in_ok-token.was) depth 9
