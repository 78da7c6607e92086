-- `read` meets its contract.
use Rattle.std.proofs.lemmas.Result.{err_from_is_err_and}
use Rattle.data.proofs.Filling.{read_done, read-not, read-refused}
use Rattle.data.proofs.read.Goals as goal

pub returns-in_err-section : goal.returns-in_err-section
returns-in_err-section c = let p = err_from_is_err_and c.from_residual.result c.from_residual.ensures.1 in rw (p.1, p.2) (search (read-refused, c.in_err-section.was) depth 6)

pub returns-in_err-end : goal.returns-in_err-end
returns-in_err-end c = let p = err_from_is_err_and c.from_residual-in_err-end.result c.from_residual-in_err-end.ensures.1 in rw (p.1, p.2) (search (read-not, c.in_ok-section.was, c.in_err-end.was) depth 8)

pub returns : goal.returns
returns c = search (read_done, c.in_ok-section.was, c.in_ok-end.was) depth 8
