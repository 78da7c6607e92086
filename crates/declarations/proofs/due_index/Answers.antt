-- `declarations::due_index` meets its contract.
use Rattle.std.proofs.lemmas.Result.{err_from_is_err_and}
use Rattle.declarations.proofs.DueLaws.{due-wrong, due-yes, due-other}
use Rattle.declarations.proofs.due_index.Goals as goal

pub returns-in_err-name : goal.returns-in_err-name
returns-in_err-name c = let p = err_from_is_err_and c.from_residual.result c.from_residual.ensures.1 in rw (p.1, p.2) (search (due-wrong, c.in_err-name.was) depth 6)

pub returns-then-name-i : goal.returns-then-name-i
returns-then-name-i c = search (due-yes, c.in_ok-name.was) depth 8

pub returns : goal.returns
returns c = search (due-other, c.in_ok-name.was) depth 8
