-- `heads::ordered_head` meets its contract.
use Rattle.std.proofs.lemmas.Result.{err_from_is_err_and}
use Rattle.data.proofs.reading.Listings.{head-repeats, head-order, head-runs}
use Rattle.data.proofs.reading.heads.ordered_head.Goals as goal

pub returns-then-not-no_repeats : goal.returns-then-not-no_repeats
returns-then-not-no_repeats c = search head-repeats depth 7

pub returns-in_err-order : goal.returns-in_err-order
returns-in_err-order c = let p = err_from_is_err_and c.from_residual.result c.from_residual.ensures.1 in rw (p.1, p.2) (search (head-order, c.in_err-order.was) depth 9)

pub returns : goal.returns
returns c = search (head-runs, c.in_ok-order.was) depth 10
