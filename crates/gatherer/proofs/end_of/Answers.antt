-- `end_of` meets its contract.
use Rattle.std.proofs.lemmas.Result.{err_from_is_err_and}
use Rattle.gatherer.proofs.Endings.{ending-start, ending-none, ending-wrong, ending-sigma, ending-variable, ending-refused, ending-on}
use Rattle.gatherer.proofs.end_of.Goals as goal

pub loop-init : goal.loop-init
loop-init c = search ending-start

pub returns-in_err-token : goal.returns-in_err-token
returns-in_err-token c = let p = err_from_is_err_and c.from_residual.result c.from_residual.ensures.1 in rw (p.1, p.2) (search (ending-wrong, c.in_err-token.was) depth 8)

pub returns-then-sigmas-token : goal.returns-then-sigmas-token
returns-then-sigmas-token c = search (ending-sigma, c.in_ok-token.was) depth 9

pub returns-in-Some : goal.returns-in-Some
returns-in-Some c = search (ending-variable, c.in_ok-token.was) depth 11

pub returns-in_err-u : goal.returns-in_err-u
returns-in_err-u c =
    let p = err_from_is_err_and c.from_residual-in_err-u.result c.from_residual-in_err-u.ensures.1 in
    rw (p.1, p.2) (search (ending-refused, c.in_ok-token.was, c.in_err-u.was) depth 13)

pub loop-preserved : goal.loop-preserved
loop-preserved c = search (ending-on, c.in_ok-token.was, c.in_ok-u.was) depth 13

pub returns : goal.returns
returns c = search ending-none depth 6
