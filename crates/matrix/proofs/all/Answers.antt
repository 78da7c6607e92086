-- `matrix::all` meets its contract.
use Rattle.std.proofs.lemmas.Result.{err_from_is_err_and}
use Rattle.matrix.proofs.Listing.{all_start, all_done, all-refused, all_more}
use Rattle.matrix.proofs.all.Goals as goal

pub loop-k-init : goal.loop-k-init
loop-k-init c = search all_start depth 8

pub returns-in_err-f : goal.returns-in_err-f
returns-in_err-f c = let p = err_from_is_err_and c.from_residual.result c.from_residual.ensures.1 in rw (p.1, p.2) (search (all-refused, c.in_err-f.was) depth 8)

pub loop-k-preserved : goal.loop-k-preserved
loop-k-preserved c = search (all_more, c.in_ok-f.was) depth 10

pub returns : goal.returns
returns c = search all_done depth 5
