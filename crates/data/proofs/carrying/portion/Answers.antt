-- `carrying::portion` meets its contract.
use Rattle.std.proofs.lemmas.Result.{err_from_is_err_and}
use Rattle.data.proofs.Portions.{portion-named, portion-unknown}
use Rattle.data.proofs.carrying.portion.Goals as goal

pub returns-in_err-name : goal.returns-in_err-name
returns-in_err-name c = let p = err_from_is_err_and c.from_residual.result c.from_residual.ensures.1 in rw (p.1, p.2) (search (portion-unknown, c.in_err-name.was) depth 6)

pub returns : goal.returns
returns c = search (portion-named, c.in_ok-name.was) depth 7
