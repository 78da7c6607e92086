-- `declarations::due_entry` meets its contract.
use Rattle.std.proofs.lemmas.Result.{err_from_is_err_and}
use Rattle.domains.proofs.Laws.{entry-lower, entry-index, entry-sign, entry-upper}
use Rattle.declarations.proofs.due_entry.Goals as goal

pub returns-in_err-lower : goal.returns-in_err-lower
returns-in_err-lower c = let p = err_from_is_err_and c.from_residual.result c.from_residual.ensures.1 in rw (p.1, p.2, ← c.in_err-lower.was) (search (entry-lower, c.in_err-lower.was) depth 6)

pub returns-in_err-index : goal.returns-in_err-index
returns-in_err-index c = let p = err_from_is_err_and c.from_residual-in_err-index.result c.from_residual-in_err-index.ensures.1 in rw (p.1, p.2, ← c.in_err-index.was) (search (entry-index, c.in_ok-lower.was, c.in_err-index.was) depth 8)

pub returns-in_err-sign : goal.returns-in_err-sign
returns-in_err-sign c = let p = err_from_is_err_and c.from_residual-in_err-sign.result c.from_residual-in_err-sign.ensures.1 in rw (p.1, p.2, ← c.in_err-sign.was) (search (entry-sign, c.in_ok-lower.was, c.in_ok-index.was, c.in_err-sign.was) depth 10)

pub returns : goal.returns
returns c = search (entry-upper, c.in_ok-lower.was, c.in_ok-index.was, c.in_ok-sign.was) depth 11
