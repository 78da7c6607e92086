-- `passing::sign` meets its contract.
use Rattle.std.proofs.lemmas.Result.{err_from_is_err_and}
use Rattle.evaluator.proofs.steps.Passed.{leads-wrong, leads-sign, leads-none}
use Rattle.evaluator.proofs.steps.passing.sign.Goals as goal

pub returns-in_err-token : goal.returns-in_err-token
returns-in_err-token c = let p = err_from_is_err_and c.from_residual.result c.from_residual.ensures.1 in rw (p.1, p.2) (search (leads-wrong, c.in_err-token.was) depth 6)

pub returns-then-token-minus : goal.returns-then-token-minus
returns-then-token-minus c = search (leads-sign, c.in_ok-token.was) depth 7

pub returns : goal.returns
returns c = search (leads-none, c.in_ok-token.was) depth 7
