-- `constraints::floor_formula` meets its contract.
use Rattle.std.proofs.lemmas.Result.{err_from_is_err_and}
use Rattle.constraints.proofs.FloorLaws.{floor-unsigned, floor-signed}
use Rattle.constraints.proofs.floor_formula.Goals as goal

pub returns-in_err-sign : goal.returns-in_err-sign
returns-in_err-sign c = let p = err_from_is_err_and c.from_residual.result c.from_residual.ensures.1 in rw (p.1, p.2, ← c.in_err-sign.was) (search (floor-unsigned, c.in_err-sign.was) depth 6)

pub returns : goal.returns
returns c = search (floor-signed, c.in_ok-sign.was) depth 8
