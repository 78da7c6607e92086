-- `heads::bracketed_order` meets its contract.
use Rattle.std.proofs.lemmas.Result.{err_from_is_err_and}
use Rattle.data.proofs.reading.Listings.{bracketed-wrong, bracketed-yes, bracketed-no}
use Rattle.data.proofs.reading.heads.bracketed_order.Goals as goal

pub returns-in_err-order : goal.returns-in_err-order
returns-in_err-order c = let p = err_from_is_err_and c.from_residual.result c.from_residual.ensures.1 in rw (p.1, p.2, ← c.in_err-order.was) (search (bracketed-wrong, c.in_err-order.was) depth 6)

pub returns-then-not-rearranges : goal.returns-then-not-rearranges
returns-then-not-rearranges c = search (bracketed-no, c.in_ok-order.was) depth 8

pub returns : goal.returns
returns c = search (bracketed-yes, c.in_ok-order.was) depth 8
