-- `constraints::locate` meets its contract.
use Rattle.std.proofs.lemmas.Result.{err_from_is_err_and}
use Rattle.constraints.proofs.RowLaws.{row-title, row-left, row-right, row-domain, row-all}
use Rattle.constraints.proofs.locate.Goals as goal

pub returns-in_err-left : goal.returns-in_err-left
returns-in_err-left c = let p = err_from_is_err_and c.from_residual.result c.from_residual.ensures.1 in rw (p.1, p.2, ← c.in_err-left.was) (search (row-title, c.in_err-left.was) depth 7)

pub returns-in_err-behind : goal.returns-in_err-behind
returns-in_err-behind c = let p = err_from_is_err_and c.from_residual-in_err-behind.result c.from_residual-in_err-behind.ensures.1 in rw (p.1, p.2, ← c.in_err-behind.was) (search (row-left, c.in_ok-left.was, c.in_err-behind.was) depth 9)

pub returns-in_err-bounds : goal.returns-in_err-bounds
returns-in_err-bounds c = let p = err_from_is_err_and c.from_residual-in_err-bounds.result c.from_residual-in_err-bounds.ensures.1 in rw (p.1, p.2) (search (row-right, c.in_ok-left.was, c.in_ok-behind.was, c.in_err-bounds.ensures) depth 11)

pub returns-in_err-end : goal.returns-in_err-end
returns-in_err-end c = let p = err_from_is_err_and c.from_residual-in_err-end.result c.from_residual-in_err-end.ensures.1 in rw (p.1, p.2, ← c.in_err-end.was) (search (row-domain, c.in_ok-left.was, c.in_ok-behind.was, c.in_ok-bounds.ensures, c.in_err-end.was) depth 12)

pub returns : goal.returns
returns c = search (row-all, c.in_ok-left.was, c.in_ok-behind.was, c.in_ok-bounds.ensures, c.in_ok-end.was) depth 13
