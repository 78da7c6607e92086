-- `model::finish` meets its contract.
use Rattle.std.proofs.lemmas.Result.{err_from_is_err_and}
use Rattle.model.proofs.Laws.{finish-refused, finish-made}
use Rattle.model.proofs.finish.Goals as goal

pub returns-in_err-section : goal.returns-in_err-section
returns-in_err-section c = let p = err_from_is_err_and c.from_residual.result c.from_residual.ensures.1 in rw (p.1, p.2) (search (finish-refused, c.in_err-section.was) depth 6)

pub returns : goal.returns
returns c = search (finish-made, c.in_ok-section.was) depth 6
