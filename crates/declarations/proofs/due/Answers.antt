-- `declarations::due` meets its contract.
use Rattle.declarations.proofs.DueLaws.{due-start, due-none, due-entry, due-last, due-comma, due-on}
use Rattle.std.proofs.lemmas.Result.{err_from_is_err_and}
use Rattle.declarations.proofs.due.Goals as goal

pub loop-k-init : goal.loop-k-init
loop-k-init c = search due-start

pub returns-in_err-end : goal.returns-in_err-end
returns-in_err-end c = let p = err_from_is_err_and c.from_residual.result c.from_residual.ensures.1 in rw (p.1, p.2, ← c.in_err-end.was) (search (due-entry, c.in_err-end.was) depth 10)

pub returns-then-k-list : goal.returns-then-k-list
returns-then-k-list c = search (due-last, c.in_ok-end.was) depth 12

pub returns-in_err-start : goal.returns-in_err-start
returns-in_err-start c = let p = err_from_is_err_and c.from_residual-in_err-start.result c.from_residual-in_err-start.ensures.1 in rw (p.1, p.2, ← c.in_err-start.was) (search (due-comma, c.in_ok-end.was, c.in_err-start.was) depth 13)

pub loop-k-preserved : goal.loop-k-preserved
loop-k-preserved c = search (due-on, c.in_ok-end.was, c.in_ok-start.was) depth 13

pub returns : goal.returns
returns c = search due-none depth 6
