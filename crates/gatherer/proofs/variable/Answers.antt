-- `variable` meets its contract.
use Rattle.std.proofs.lemmas.Result.{err_from_is_err_and}
use Rattle.gatherer.proofs.Variables.{variable-refused, variable-fits, variable-unfit}
use Rattle.gatherer.proofs.variable.Goals as goal

pub returns-in_err-j : goal.returns-in_err-j
returns-in_err-j c = let p = err_from_is_err_and c.from_residual.result c.from_residual.ensures.1 in rw (p.1, p.2) (search (variable-refused, c.in_err-j.was) depth 6)

pub returns-then-not-fits : goal.returns-then-not-fits
returns-then-not-fits c = search (variable-unfit, c.in_ok-j.was) depth 9

pub returns : goal.returns
returns c = search (variable-fits, c.in_ok-j.was) depth 9
