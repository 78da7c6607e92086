-- `model::read` meets its contract.
use Rattle.std.proofs.lemmas.Result.{err_from_is_err_and}
use Rattle.model.proofs.Laws.{read-model, read-refused}
use Rattle.model.proofs.read.Goals as goal

pub returns-in_err-structure : goal.returns-in_err-structure
returns-in_err-structure c = let p = err_from_is_err_and c.from_residual.result c.from_residual.ensures.1 in rw (p.1, p.2) (search (read-refused, c.in_err-structure.was) depth 7)

pub returns : goal.returns
returns c = search (read-model, c.in_ok-structure.was) depth 8
