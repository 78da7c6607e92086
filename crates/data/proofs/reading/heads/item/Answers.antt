-- `heads::item` meets its contract.
use Rattle.std.proofs.lemmas.Result.{err_from_is_err_and}
use Rattle.data.proofs.reading.Listings.{item-wrong, item-yes, item-no}
use Rattle.data.proofs.reading.heads.item.Goals as goal

pub returns-in_err-first : goal.returns-in_err-first
returns-in_err-first c = let p = err_from_is_err_and c.from_residual.result c.from_residual.ensures.1 in rw (p.1, p.2, ← c.in_err-first.was) (search (item-wrong, c.in_err-first.was) depth 6)

pub returns-in_err-next : goal.returns-in_err-next
returns-in_err-next c = let p = err_from_is_err_and c.from_residual-in_err-next.result c.from_residual-in_err-next.ensures.1 in rw (p.1, p.2) (search (item-no, c.in_ok-first.was, c.in_err-next.was) depth 8)

pub returns : goal.returns
returns c = search (item-yes, c.in_ok-first.was, c.in_ok-next.was) depth 8
