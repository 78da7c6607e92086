-- `sections::data_of` meets its contract.
use Rattle.std.proofs.lemmas.Result.{err_from_is_err_and}
use Rattle.data.proofs.Filling.{data-rest, data-title}
use Rattle.data.proofs.sections.data_of.Goals as goal

pub returns-in_err-title : goal.returns-in_err-title
returns-in_err-title c = let p = err_from_is_err_and c.from_residual.result c.from_residual.ensures.1 in rw (p.1, p.2) (search (data-title, c.in_err-title.was) depth 6)

pub returns : goal.returns
returns c = search (data-rest, c.in_ok-title.was) depth 7
