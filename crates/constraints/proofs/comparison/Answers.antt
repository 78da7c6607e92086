-- `constraints::comparison` meets its contract.
use Rattle.std.proofs.lemmas.Result.{err_from_is_err_and}
use Rattle.constraints.proofs.ComparisonLaws.{comparison-relation, comparison-right, comparison-low, comparison-floor}
use Rattle.constraints.proofs.comparison.Goals as goal

pub returns-in_err-mark : goal.returns-in_err-mark
returns-in_err-mark c = let p = err_from_is_err_and c.from_residual.result c.from_residual.ensures.1 in rw (p.1, p.2) (search (comparison-relation, c.in_err-mark.ensures) depth 7)

pub returns-in_err-behind : goal.returns-in_err-behind
returns-in_err-behind c = let p = err_from_is_err_and c.from_residual-in_err-behind.result c.from_residual-in_err-behind.ensures.1 in rw (p.1, p.2, ← c.in_err-behind.was) (search (comparison-right, c.in_ok-mark.ensures, c.in_err-behind.was) depth 9)

pub returns-in_err-floor : goal.returns-in_err-floor
returns-in_err-floor c = let p = err_from_is_err_and c.from_residual-in_err-floor.result c.from_residual-in_err-floor.ensures.1 in rw (p.1, p.2) (search (comparison-low, c.in_ok-mark.ensures, c.in_ok-behind.was, c.in_err-floor.ensures) depth 10)

pub returns : goal.returns
returns c = search (comparison-floor, c.in_ok-mark.ensures, c.in_ok-behind.was, c.in_ok-floor.ensures) depth 11
