-- `heads::list` meets its contract.
use Rattle.std.proofs.lemmas.Result.{err_from_is_err_and}
use Rattle.data.proofs.reading.Listings.{listing_start, listing-wrong, listing-on, listing-end}
use Rattle.data.proofs.reading.heads.list.Goals as goal

pub loop-left-init : goal.loop-left-init
loop-left-init c = search listing_start

pub loop-left-preserved : goal.loop-left-preserved
loop-left-preserved c = search (listing-on, c.in_ok-e.was) depth 10

pub returns-in_err-e : goal.returns-in_err-e
returns-in_err-e c = let p = err_from_is_err_and c.from_residual.result c.from_residual.ensures.1 in rw (p.1, p.2) (search (listing-wrong, c.in_err-e.was) depth 9)

pub returns : goal.returns
returns c = search listing-end depth 6
