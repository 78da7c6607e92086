-- `domains::entries` meets its contract.
use Rattle.std.proofs.lemmas.Result.{err_from_is_err_and}
use Rattle.domains.proofs.Laws.{entries-first, entries-last, entries-wrong, entries-end, entries-on}
use Rattle.domains.proofs.+entries.Goals as goal

pub returns-in_err-first : goal.returns-in_err-first
returns-in_err-first t c = let p = err_from_is_err_and c.from_residual.result c.from_residual.ensures.1 in rw (p.1, p.2, ← c.in_err-first.was) (search (entries-first, c.in_err-first.was) depth 6)

pub returns-then-left-eq0 : goal.returns-then-left-eq0
returns-then-left-eq0 t c = search (entries-last, c.in_ok-first.was) depth 8

pub returns-in_err-token : goal.returns-in_err-token
returns-in_err-token t c = let p = err_from_is_err_and c.from_residual-in_err-token.result c.from_residual-in_err-token.ensures.1 in rw (p.1, p.2) (search (entries-wrong, c.in_ok-first.was, c.in_err-token.was) depth 9)

pub returns-then-token : goal.returns-then-token
returns-then-token t c = search (entries-end, c.in_ok-first.was, c.in_ok-token.was) depth 11

pub returns : goal.returns
returns t c = search (entries-on, c.in_ok-first.was, c.in_ok-token.was) depth 11
