-- `number_of` meets its contract.
use Rattle.std.proofs.lemmas.Result.{err_from_is_err_and}
use Rattle.matrix.proofs.sides.Bounds.{of_number, of-nothing, of-wrong}
use Rattle.matrix.proofs.sides.number_of.Goals as goal

pub returns-in_err-token : goal.returns-in_err-token
returns-in_err-token c = let p = err_from_is_err_and c.from_residual.result c.from_residual.ensures.1 in rw (p.1, p.2) (search (of-wrong, c.in_err-token.was) depth 6)

pub returns-in_default : goal.returns-in_default
returns-in_default c = search (of-nothing, c.in_ok-token.was) depth 8

pub returns : goal.returns
returns c = search (of_number, c.in_ok-token.was) depth 10
