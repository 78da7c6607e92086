-- `heads::order_list` meets its contract.
use Rattle.std.proofs.lemmas.Result.{err_from_is_err_and}
use Rattle.data.proofs.reading.Listings.{order-start, order-more, order-last, order-no, order-wrong, order-stuck, order-out}
use Rattle.data.proofs.reading.heads.order_list.Goals as goal

pub loop-init : goal.loop-init
loop-init c = search order-start

pub returns-in_err-i : goal.returns-in_err-i
returns-in_err-i c = let p = err_from_is_err_and c.from_residual.result c.from_residual.ensures.1 in rw (p.1, p.2) (search (order-wrong, c.in_err-i.was) depth 8)

pub returns-in_err-token : goal.returns-in_err-token
returns-in_err-token c = let p = err_from_is_err_and c.from_residual-in_err-token.result c.from_residual-in_err-token.ensures.1 in rw (p.1, p.2) (search (order-stuck, c.in_ok-i.was, c.in_err-token.was) depth 10)

pub returns-then-token : goal.returns-then-token
returns-then-token c = search (order-last, c.in_ok-i.was, c.in_ok-token.was) depth 12

pub returns-then-token-2 : goal.returns-then-token-2
returns-then-token-2 c = search (order-no, c.in_ok-i.was, c.in_ok-token.was) depth 12

pub loop-preserved : goal.loop-preserved
loop-preserved c = search (order-more, c.in_ok-i.was, c.in_ok-token.was) depth 12

pub returns : goal.returns
returns c = search order-out depth 6
