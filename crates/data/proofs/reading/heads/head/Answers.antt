-- `heads::head` meets its contract.
use Rattle.std.proofs.lemmas.Result.{err_from_is_err_and}
use Rattle.data.proofs.reading.Listings.{head-wrong, head-on}
use Rattle.data.proofs.reading.heads.head.Goals as goal

pub returns-in_err-open : goal.returns-in_err-open
returns-in_err-open c = let p = err_from_is_err_and c.from_residual.result c.from_residual.ensures.1 in rw (p.1, p.2) (search (head-wrong, c.in_err-open.was) depth 6)

pub returns : goal.returns
returns c = search (head-on, c.in_ok-open.was) depth 7
