-- `number` meets its contract.
use Rattle.std.proofs.lemmas.Result.{err_from_is_err_and}
use Rattle.gatherer.proofs.Numbers.{number-subscripts, number-outside, number-nothing, number-found}
use Rattle.gatherer.proofs.number.Goals as goal

pub returns-in_err-e : goal.returns-in_err-e
returns-in_err-e c = let p = err_from_is_err_and c.from_residual.result c.from_residual.ensures.1 in rw (p.1, p.2) (search (number-subscripts, c.in_err-e.was) depth 6)

pub returns-in_err-within : goal.returns-in_err-within
returns-in_err-within c =
    let p = err_from_is_err_and c.from_residual-in_err-within.result c.from_residual-in_err-within.ensures.1 in
    rw (p.1, p.2) (search (number-outside, c.in_ok-e.was, c.in_err-within.was) depth 8)

pub returns-in_default : goal.returns-in_default
returns-in_default c = search (number-nothing, c.in_ok-e.was, c.in_ok-within.was) depth 11

pub returns : goal.returns
returns c = search (number-found, c.in_ok-e.was, c.in_ok-within.was) depth 11
