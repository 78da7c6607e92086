-- `factor` meets its contract.
use Rattle.std.proofs.lemmas.Result.{err_from_is_err_and}
use Rattle.gatherer.proofs.Endings.{factor-refused, factor-wrong, factor-product}
use Rattle.gatherer.proofs.factor.Goals as goal

pub returns-in_err-v : goal.returns-in_err-v
returns-in_err-v c = let p = err_from_is_err_and c.from_residual.result c.from_residual.ensures.1 in rw (p.1, p.2) (search (factor-refused, c.in_err-v.was) depth 6)

pub returns-in_err-star : goal.returns-in_err-star
returns-in_err-star c =
    let p = err_from_is_err_and c.from_residual-in_err-star.result c.from_residual-in_err-star.ensures.1 in
    rw (p.1, p.2) (search (factor-wrong, c.in_ok-v.was, c.in_err-star.was) depth 8)

pub returns : goal.returns
returns c = search (factor-product, c.in_ok-v.was, c.in_ok-star.was) depth 9
