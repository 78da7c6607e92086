-- `parser::objective` meets its contract.
use Rattle.std.proofs.lemmas.Result.{err_from_is_err_and}
use Rattle.parser.proofs.Laws.{objective-goal, objective-colon, objective-linear, objective-form}
use Rattle.parser.proofs.objective.Goals as goal

pub returns-in_err-minimize : goal.returns-in_err-minimize
returns-in_err-minimize c = let p = err_from_is_err_and c.from_residual.result c.from_residual.ensures.1 in rw (p.1, p.2) (search (objective-goal, c.in_err-minimize.ensures) depth 6)

pub returns-in_err-form : goal.returns-in_err-form
returns-in_err-form c = let p = err_from_is_err_and c.from_residual-in_err-form.result c.from_residual-in_err-form.ensures.1 in rw (p.1, p.2, ← c.in_err-form.was) (search (objective-colon, c.in_ok-minimize.ensures, c.in_err-form.was) depth 8)

pub returns-in_err-end : goal.returns-in_err-end
returns-in_err-end c = let p = err_from_is_err_and c.from_residual-in_err-end.result c.from_residual-in_err-end.ensures.1 in rw (p.1, p.2, ← c.in_err-end.was) (search (objective-linear, c.in_ok-minimize.ensures, c.in_ok-form.was, c.in_err-end.was) depth 9)

pub returns : goal.returns
returns c = search (objective-form, c.in_ok-minimize.ensures, c.in_ok-form.was, c.in_ok-end.was) depth 10
