-- `domains::entry` meets its contract.
use Rattle.std.proofs.lemmas.Result.{err_from_is_err_and}
use Rattle.domains.proofs.Laws.{entry-lower, entry-index, entry-sign, entry-upper}
use Rattle.domains.proofs.entry.Goals as goal

pub returns-in_err-lower : goal.returns-in_err-lower
returns-in_err-lower c = let p = err_from_is_err_and c.from_residual.result c.from_residual.ensures.1 in rw (p.1, p.2, ← c.in_err-lower.was) (search (entry-lower, c.in_err-lower.was) depth 6)

pub returns-in_err-i : goal.returns-in_err-i
returns-in_err-i c = let p = err_from_is_err_and c.from_residual-in_err-i.result c.from_residual-in_err-i.ensures.1 in rw (p.1, p.2, ← c.in_err-i.was) (search (entry-index, c.in_ok-lower.was, c.in_err-i.was) depth 8)

pub returns-in_err-sign : goal.returns-in_err-sign
returns-in_err-sign c = let p = err_from_is_err_and c.from_residual-in_err-sign.result c.from_residual-in_err-sign.ensures.1 in rw (p.1, p.2, ← c.in_err-sign.was) (search (entry-sign, c.in_ok-lower.was, c.in_ok-i.was, c.in_err-sign.was) depth 10)

pub returns : goal.returns
returns c = search (entry-upper, c.in_ok-lower.was, c.in_ok-i.was, c.in_ok-sign.was) depth 11
