-- `names::head` meets its contract.
use Rattle.std.proofs.lemmas.Result.{err_from_is_err_and}
use Rattle.evaluator.proofs.steps.Numbers.{heads-wrong, heads-index}
use Rattle.evaluator.proofs.steps.names.head.Goals as goal

pub returns-in_err-token : goal.returns-in_err-token
returns-in_err-token c = let p = err_from_is_err_and c.from_residual.result c.from_residual.ensures.1 in rw (p.1, p.2) (search (heads-wrong, c.in_err-token.was) depth 7)

pub returns : goal.returns
returns c = search (heads-index, c.in_ok-token.was) depth 9
