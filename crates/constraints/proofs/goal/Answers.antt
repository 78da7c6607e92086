-- `constraints::goal` meets its contract.
use Rattle.std.proofs.lemmas.Result.{err_from_is_err_and}
use Rattle.constraints.proofs.TokenLaws.{goal-yes, goal-no, goal-wrong}
use Rattle.constraints.proofs.goal.Goals as goal

pub returns-in_err-token : goal.returns-in_err-token
returns-in_err-token c = let p = err_from_is_err_and c.from_residual.result c.from_residual.ensures.1 in rw (p.1, p.2) (search (goal-wrong, c.in_err-token.was) depth 6)

pub returns-then-maximize-minimize : goal.returns-then-maximize-minimize
returns-then-maximize-minimize c = search (goal-yes, c.in_ok-token.was) depth 8

pub returns : goal.returns
returns c = search (goal-no, c.in_ok-token.was) depth 8
