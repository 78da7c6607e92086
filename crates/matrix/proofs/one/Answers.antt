-- `matrix::one` meets its contract.
use Rattle.std.proofs.lemmas.Result.{err_from_is_err_and}
use Rattle.matrix.proofs.Listing.{one-rows, one-bounds, one-refused}
use Rattle.matrix.proofs.one.Goals as goal

pub returns-in_err-bounds_of : goal.returns-in_err-bounds_of
returns-in_err-bounds_of c = let p = err_from_is_err_and c.from_residual.result c.from_residual.ensures.1 in rw (p.1, p.2) (search (one-refused, c.in_err-bounds_of.was) depth 7)

pub returns-then-parts : goal.returns-then-parts
returns-then-parts c = search (one-bounds, c.in_ok-bounds_of.was) depth 7

pub returns : goal.returns
returns c = search one-rows depth 6
